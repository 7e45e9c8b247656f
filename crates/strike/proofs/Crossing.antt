-- A field rewritten block by block is what is written of those of its codes that are kept; these are a meaning's, and the field never grows.
-- Assumes nothing.
use Prim.Native.Nat.{ℕ, ◌+◌, ◌-◌, ◌*◌, ◌%◌, ◌≤◌, ◌<◌}
use mathlib.Core.Bool.{Bool, true, false}
use mathlib.Core.List.{List, [], ◌∷◌, ◌++◌}
use mathlib.Core.Path.{◌≡◌, refl, sym, ap, ◌∙◌}
use native.Mathlib.Omega.{arith}
use lib.ListN.{length}
use Rattle.octets.specs.Bits.{AreOctets}
use Rattle.octets.specs.Places.{pick}
use Rattle.tree.specs.Block.{numbers, behind, ended}
use Rattle.tree.specs.Codes.{field_base, group_behind, field_codes, field_behind, of_f, of_s}
use Rattle.tree.specs.Form.{field_form}
use Rattle.tree.specs.Fields.{base_of}
use Rattle.tree.specs.declared.Field.{Field}
use Rattle.tree.specs.declared.Field.TheVariants.{Identification, Standard}
use Rattle.tree.specs.Form.{Fine}
use Rattle.meaning.specs.Written.{block_octets, marked, written}
use Rattle.meaning.specs.Writing.{is_empty}
use Rattle.meaning.proofs.Trees.{Sub, sub, Par, par, sub_places, tree_codes, subs_octets, lower_octets, par_octets, pars_octets, tree_octets, Rising}
use Rattle.meaning.proofs.Growing.{written_tree}
use Rattle.meaning.proofs.Meanings.{Meant, tree_means}
use Rattle.meaning.proofs.Reading.{subs_at, group_at, pars_at, tree_at, places_subs, places_pars, rising_at, tree_codes_lem, tree_good}
use Rattle.meaning.proofs.Minimals.{never_longer}
use Rattle.names.specs.Named.{keeps}
use Rattle.names.specs.Masks.{only, npar_places, spar_places}
use Rattle.names.specs.Inner.{kept_place}
use Rattle.names.specs.declared.Keep.{Keep}
use Rattle.names.proofs.Printings.{keeps_npar, keeps_spar1, keeps_spar2}
use Rattle.names.proofs.Parentage.{npar_parent, spar_parent}
use Rattle.strike.specs.Inner.{sieved, sub_kept, subs_kept, lower_kept, group_kept, whole_par, par_kept, pars_kept, rest_kept, field_kept}
use Rattle.strike.proofs.Filtering.{subs_only, pars_only, tree_only, places_subs_only, places_pars_only, tree_only_good, Parented, tree_only_codes, tree_fewer}

-- a field's codes begin at a multiple of 134217728
base_whole : (f : Field) → base_of f % of_f ≡ 0
base_whole Identification = refl
base_whole Standard = refl

-- what is kept has its parents kept
kept_parented : (k : Keep) → Parented (keeps k)
kept_parented k = record { npar = npar_parent k; spar = spar_parent k }

-- two tests that agree on positions leave the same of them
same_only : (g h : ℕ → Bool) (lo : ℕ) (qs : List ℕ) → Rising lo qs → ((q : ℕ) → 0 < q → q < 512 → g q ≡ h q) → only g qs ≡ only h qs
unfolding Rising only
same_only g h lo [] r e = refl
same_only g h lo (q ∷ qs) r e = rw (e q (omega (arith, r.0)) (omega (arith, r.1)), same_only g h q qs r.2 e)

-- SPar(2) stands where a node does
lower_octets_lem : (gs : List Sub) → lower_octets gs ≡ pick (is_empty (sub_places gs)) [] (block_octets 6 64 (sub_places gs) ++ subs_octets gs)
unfolding lower_octets
lower_octets_lem [] = refl
lower_octets_lem ((sub t ks) ∷ gs) = refl

module _ (k : Keep) (l : List ℕ) (short : length l ≤ 64) where
  -- the positions kept of a block are those whose codes are
  npars_kept : (w m c e : ℕ) → w ≤ 7 → c % 512 ≡ 0 → sieved w m (npar_places k c) l e ≡ only (λ q. keeps k (c + q)) (numbers w m 0 l e)
  npars_kept w m c e h a =
      same_only (kept_place (npar_places k c)) (λ q. keeps k (c + q)) 0 (numbers w m 0 l e) (rising_at l short w m e h) (λ q p i. keeps_npar k c q a p i)

  spars1_kept : (b e : ℕ) → b % of_f ≡ 0 → sieved 7 128 (spar_places k b) l e ≡ only (λ s. keeps k (b + s * of_s)) (numbers 7 128 0 l e)
  spars1_kept b e a =
      same_only (kept_place (spar_places k b)) (λ s. keeps k (b + s * of_s)) 0 (numbers 7 128 0 l e) (rising_at l short 7 128 e (omega arith)) (λ q p i. keeps_spar1 k b q a p i)

  spars2_kept : (c e : ℕ) → c % of_s ≡ 0 → sieved 6 64 (spar_places k c) l e ≡ only (λ t. keeps k (c + t * 512)) (numbers 6 64 0 l e)
  spars2_kept c e a =
      same_only (kept_place (spar_places k c)) (λ t. keeps k (c + t * 512)) 0 (numbers 6 64 0 l e) (rising_at l short 6 64 e (omega arith)) (λ q p i. keeps_spar2 k c q a p i)

  -- what is put for the NPar(3) blocks is the octets of the nodes that are left; likewise with SPar(2) before them, and above
  subs_crossed : (c lo : ℕ) (ts : List ℕ) (e : ℕ) → c % of_s ≡ 0 → Rising lo ts → subs_kept k c (spar_places k c) ts l e ≡ subs_octets (subs_only (keeps k) c (subs_at ts l e))
  unfolding Rising subs_octets subs_only subs_at subs_kept sub_kept
  subs_crossed c lo [] e a r = refl
  subs_crossed c lo (t ∷ ts) e a r =
      rw (keeps_spar2 k c t a (omega (arith, r.0)) (omega (arith, r.1)), npars_kept 6 64 (c + t * 512) e (omega arith) (omega arith), subs_crossed c t ts x a r.2) (go (keeps k (c + t * 512)))
    where
      x : ℕ
      x = behind 64 l e

      K : List ℕ
      K = only (λ q. keeps k (c + t * 512 + q)) (numbers 6 64 0 l e)

      S : List Sub
      S = subs_only (keeps k) c (subs_at ts l x)

      go : (u : Bool) → pick u (block_octets 6 64 K) [] ++ subs_octets S ≡ subs_octets (pick u (sub t K ∷ S) S)
      go true = refl
      go false = refl

  lower_crossed : (c e : ℕ) → c % of_s ≡ 0 → lower_kept k c (spar_places k c) l e ≡ lower_octets (subs_only (keeps k) c (subs_at (numbers 6 64 0 l e) l (behind 64 l e)))
  unfolding lower_kept
  lower_crossed c e a =
      let ts = numbers 6 64 0 l e in
      let x = behind 64 l e in
      let gs = subs_only (keeps k) c (subs_at ts l x) in
      let places : sieved 6 64 (spar_places k c) l e ≡ sub_places gs =
      spars2_kept c e a ∙ sym (places_subs_only (keeps k) c (subs_at ts l x) ∙ ap (only (λ t. keeps k (c + t * 512))) (places_subs ts l x)) in
      rw (places, subs_crossed c 0 ts x a (rising_at l short 6 64 e (omega arith))) (sym (lower_octets_lem gs))

  group_crossed : (c e : ℕ) → c % of_s ≡ 0 → group_kept k c l e ≡ lower_octets (subs_only (keeps k) c (group_at l e))
  unfolding group_kept group_at
  group_crossed c e a = rw (lower_crossed c e a) (go (ended l e))
    where
      gs : List Sub
      gs = subs_at (numbers 6 64 0 l e) l (behind 64 l e)

      go : (u : Bool) → pick u [] (lower_octets (subs_only (keeps k) c gs)) ≡ lower_octets (subs_only (keeps k) c (pick u [] gs))
      go true = unfold lower_octets subs_only in refl
      go false = refl

  pars_crossed : (b lo : ℕ) (ss : List ℕ) (e : ℕ) → b % of_f ≡ 0 → Rising lo ss → pars_kept k b (spar_places k b) ss l e ≡ pars_octets (pars_only (keeps k) b (pars_at ss l e))
  unfolding Rising par_octets pars_octets pars_only pars_at pars_kept par_kept whole_par
  pars_crossed b lo [] e a r = refl
  pars_crossed b lo (s ∷ ss) e a r =
      rw (keeps_spar1 k b s a (omega (arith, r.0)) (omega (arith, r.1)), npars_kept 6 64 c e (omega arith) (omega arith), group_crossed c x (omega arith), pars_crossed b s ss y a r.2)
      (go (keeps k c))
    where
      c : ℕ
      c = b + s * of_s

      x : ℕ
      x = behind 64 l e

      y : ℕ
      y = group_behind l x

      N : List ℕ
      N = only (λ q. keeps k (c + q)) (numbers 6 64 0 l e)

      G : List Sub
      G = subs_only (keeps k) c (group_at l x)

      S : List Par
      S = pars_only (keeps k) b (pars_at ss l y)

      go : (u : Bool) → pick u (marked (block_octets 6 64 N ++ lower_octets G)) [] ++ pars_octets S ≡ pars_octets (pick u (par s N G ∷ S) S)
      go true = refl
      go false = refl

  tree_crossed : (b at : ℕ) → b % of_f ≡ 0 → field_kept k b l at ≡ tree_octets (tree_only (keeps k) b (tree_at l at))
  unfolding field_kept rest_kept tree_octets tree_only tree_at
  tree_crossed b at a =
      let x = behind 128 l at in
      let y = behind 128 l x in
      let ss = numbers 7 128 0 l x in
      let places : sieved 7 128 (spar_places k b) l x ≡ _ =
      spars1_kept b x a ∙ sym (places_pars_only (keeps k) b (pars_at ss l y) ∙ ap (only (λ s. keeps k (b + s * of_s))) (places_pars ss l y)) in
      rw (npars_kept 7 128 b at (omega arith) (omega arith), places, pars_crossed b 0 ss y a (rising_at l short 7 128 x (omega arith)))

  -- the codes of the field's tree, filtered
  kept_codes : (b at : ℕ) → b % of_f ≡ 0 → tree_codes b (tree_only (keeps k) b (tree_at l at)) ≡ only (keeps k) (field_codes b l at)
  kept_codes b at a = tree_only_codes (keeps k) (kept_parented k) b (tree_at l at) a (tree_good l short at) ∙ ap (only (keeps k)) (tree_codes_lem b l at)

  -- a field rewritten block by block is what is written of those of its codes that are kept
  pub kept_is_written : (f : Field) (at : ℕ) → field_kept k (base_of f) l at ≡ written (base_of f) (only (keeps k) (field_codes (base_of f) l at))
  kept_is_written f at =
      let b = base_of f in
      let T = tree_at l at in
      tree_crossed b at (base_whole f) ∙ sym (written_tree b (tree_only (keeps k) b T) (tree_only_good (keeps k) b T (tree_good l short at))) ∙ ap (written b) (kept_codes b at (base_whole f))

  -- which are a meaning's
  pub kept_means : (f : Field) (at : ℕ) → Meant (base_of f) (only (keeps k) (field_codes (base_of f) l at))
  kept_means f at = rw (kept_codes (base_of f) at (base_whole f)) at (go f)
    where
      means : (n : ℕ) → 0 < n → n ≤ 2 → Meant (field_base n) (tree_codes (field_base n) (tree_only (keeps k) (field_base n) (tree_at l at)))
      means n lo hi = tree_means n (tree_only (keeps k) (field_base n) (tree_at l at)) lo hi (tree_only_good (keeps k) (field_base n) (tree_at l at) (tree_good l short at))

      go : (f : Field) → Meant (base_of f) (tree_codes (base_of f) (tree_only (keeps k) (base_of f) (tree_at l at)))
      go Identification = means 1 (omega arith) (omega arith)
      go Standard = means 2 (omega arith) (omega arith)

  -- a well-formed field never grows
  pub kept_fits : (f : Field) (at : ℕ) → AreOctets l → field_form l at ≡ Fine → length (field_kept k (base_of f) l at) ≤ field_behind l at - at
  kept_fits f at o fine =
      rw (tree_crossed (base_of f) at (base_whole f)) (omega (arith, tree_fewer (keeps k) (base_of f) (tree_at l at) (tree_good l short at), never_longer l o at fine))
