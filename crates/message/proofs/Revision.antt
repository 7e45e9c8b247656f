-- The revision decides nothing: two messages that differ in it only are read alike and have the same codes. Behind octet 1 no definition looks back to it.
-- Assumes nothing.
use Prim.Native.Nat.{ℕ, zero, suc, ◌+◌, ◌-◌, ◌%◌, ◌<◌, ◌≤◌}
use mathlib.Core.Path.{◌≡◌, refl}
use mathlib.Core.Bool.{Bool, true, false}
use mathlib.Core.List.{List, [], ◌∷◌}
use native.Mathlib.Omega.{arith}
use lib.Dec.{ltb}
use lib.ListN.{length, get_or, drop}
use Rattle.octets.specs.Places.{pick}
use Rattle.tree.specs.Block.{block_numbers, block_end, behind, announced, ended}
use Rattle.tree.specs.Codes.{field_base, sub_codes, subs_behind, group_codes, group_behind, par_codes, pars_behind, rest_codes, rest_behind, field_codes, field_behind}
use Rattle.tree.specs.Form.{block_form, subs_form, group_form, pars_form, rest_form, field_form}
use Rattle.tree.proofs.Forms.{end_above}
use Rattle.message.specs.Nonstandard.{ns_form, tail_form}
use Rattle.message.specs.Reader.{message_form, message_codes, ns_place, ns_size, read_message}

-- a message l of at least two octets, and l' with another first octet
module _ (o o' x : ℕ) (t : List ℕ) where
  abbrev l : List ℕ
  l = o ∷ x ∷ t

  abbrev l' : List ℕ
  l' = o' ∷ x ∷ t

  -- the octets from a place on, and the octet at a place
  drop_alike : (e : ℕ) → 0 < e → drop e l ≡ drop e l'
  drop_alike zero h = absurd (omega arith)
  drop_alike (suc e) h = refl

  at_alike : (e : ℕ) → 0 < e → get_or l e 0 ≡ get_or l' e 0
  at_alike zero h = absurd (omega arith)
  at_alike (suc e) h = refl

  ended_alike : (e : ℕ) → 2 ≤ e → ended l e ≡ ended l' e
  ended_alike e h = rw (at_alike (e - 1) (omega arith))

  -- a block ends no earlier than it begins
  up : (m e : ℕ) → 2 ≤ e → 2 ≤ behind m l' e
  up m e h = omega (arith, end_above m e (drop e l'))

  pick_up : (b : Bool) (m n : ℕ) → 2 ≤ m → 2 ≤ n → 2 ≤ pick b m n
  pick_up true m n h k = h
  pick_up false m n h k = k

  -- NPar(3) blocks
  subs_alike : (k e : ℕ) → 2 ≤ e → (subs_form k l e ≡ subs_form k l' e) × (subs_behind k l e ≡ subs_behind k l' e) × (2 ≤ subs_behind k l' e)
  unfolding subs_form subs_behind
  subs_alike zero e h = (rw (ended_alike e h), refl, h)
  subs_alike (suc k) e h =
      let d : drop e l ≡ drop e l' = drop_alike e (omega arith) in
      let r = subs_alike k (behind 64 l' e) (up 64 e h) in
      (rw (d, ended_alike e h, r.0), rw d r.1, r.2)

  sub_codes_alike : (c : ℕ) (ts : List ℕ) (e : ℕ) → 2 ≤ e → sub_codes c ts l e ≡ sub_codes c ts l' e
  unfolding sub_codes
  sub_codes_alike c [] e h = refl
  sub_codes_alike c (s ∷ ts) e h = rw (drop_alike e (omega arith), sub_codes_alike c ts (behind 64 l' e) (up 64 e h))

  -- a Par(2) block behind its NPar(2)
  group_alike : (e : ℕ) → 2 ≤ e
      → (group_form l e ≡ group_form l' e)
      × (group_behind l e ≡ group_behind l' e)
      × (2 ≤ group_behind l' e)
      × ((c : ℕ) → group_codes c l e ≡ group_codes c l' e)
  unfolding group_form group_behind group_codes
  group_alike e h =
      let d : drop e l ≡ drop e l' = drop_alike e (omega arith) in
      let r = subs_alike (announced 6 64 l' e) (behind 64 l' e) (up 64 e h) in
      let f = ended_alike e h in
      (rw (f, d, r.0), rw (f, d, r.1), pick_up (ended l' e) e _ h r.2, λ c. rw (f, d, sub_codes_alike c _ (behind 64 l' e) (up 64 e h)))

  -- Par(2) blocks
  pars_alike : (k e : ℕ) → 2 ≤ e → (pars_form k l e ≡ pars_form k l' e) × (pars_behind k l e ≡ pars_behind k l' e) × (2 ≤ pars_behind k l' e)
  unfolding pars_form pars_behind
  pars_alike zero e h = (refl, refl, h)
  pars_alike (suc k) e h =
      let d : drop e l ≡ drop e l' = drop_alike e (omega arith) in
      let g = group_alike (behind 64 l' e) (up 64 e h) in
      let r = pars_alike k (group_behind l' (behind 64 l' e)) g.2 in
      (rw (d, g.0, g.1, r.0), rw (d, g.1) r.1, r.2)

  par_codes_alike : (b : ℕ) (ss : List ℕ) (e : ℕ) → 2 ≤ e → par_codes b ss l e ≡ par_codes b ss l' e
  unfolding par_codes
  par_codes_alike b [] e h = refl
  par_codes_alike b (s ∷ ss) e h =
      let g = group_alike (behind 64 l' e) (up 64 e h) in
      rw (drop_alike e (omega arith), g.3, g.1, par_codes_alike b ss (group_behind l' (behind 64 l' e)) g.2)

  -- a field
  abbrev FieldAlike : ℕ → Type 0
  FieldAlike at =
      (field_form l at ≡ field_form l' at)
      × (field_behind l at ≡ field_behind l' at)
      × (2 ≤ field_behind l' at)
      × ((b : ℕ) → field_codes b l at ≡ field_codes b l' at)

  field_alike : (at : ℕ) → 0 < at → 2 ≤ behind 128 l' at → FieldAlike at
  unfolding field_form field_behind field_codes rest_form rest_behind rest_codes
  field_alike at h k =
      let e = behind 128 l' at in
      let i = behind 128 l' e in
      let d = drop_alike at h in
      let c : drop e l ≡ drop e l' = drop_alike e (omega arith) in
      let r = pars_alike (announced 7 128 l' e) i (up 128 e k) in
      (rw (d, c, r.0), rw (d, c, r.1), r.2, λ b. rw (d, c, par_codes_alike b _ i (up 128 e k)))

  -- what is behind S
  ns_alike : (k e : ℕ) → 0 < e → ns_form k l e ≡ ns_form k l' e
  unfolding ns_form
  ns_alike zero e h = refl
  ns_alike (suc k) e h = rw (at_alike e h, ns_alike k (e + 1 + get_or l' e 0) (omega arith))

  tail_alike : (e : ℕ) → 0 < e → tail_form l e ≡ tail_form l' e
  unfolding tail_form
  tail_alike e h = rw (ns_alike (length l) e h)

  -- I begins at place 1, and S behind it
  one_alike : FieldAlike 1
  unfolding block_end
  one_alike = field_alike 1 (omega arith) (pick_up (ltb x 128) _ 2 (end_above 128 2 t) (omega arith))

  two_alike : FieldAlike (field_behind l' 1)
  two_alike = let h = one_alike.2 in field_alike (field_behind l' 1) (omega arith) (up 128 (field_behind l' 1) h)

  form_alike : o % 16 ≡ o' % 16 → message_form l ≡ message_form l'
  unfolding message_form
  form_alike q = rw (q, one_alike.0, one_alike.1, two_alike.0, two_alike.1, tail_alike (field_behind l' (field_behind l' 1)) (let h = two_alike.2 in omega arith))

  codes_alike : o % 16 ≡ o' % 16 → message_codes l ≡ message_codes l'
  unfolding message_codes
  codes_alike q = rw (q, one_alike.3 (field_base 1), one_alike.1, two_alike.3 (field_base 2))

  place_alike : o % 16 ≡ o' % 16 → (ns_place l ≡ ns_place l') × (ns_size l ≡ ns_size l')
  place_alike q = (rw (q, one_alike.1, two_alike.1), rw (q, one_alike.1, two_alike.1))

-- two messages with the same octets behind octet 1 and the same type
module _ (o o' : ℕ) (q : o % 16 ≡ o' % 16) where
  whole_alike : (r : List ℕ) → message_form (o ∷ r) ≡ message_form (o' ∷ r)
  unfolding message_form field_form block_form
  whole_alike [] = rw q
  whole_alike (x ∷ t) = form_alike o o' x t q

  -- are read alike
  pub same_reading : (r : List ℕ) (room : ℕ) → read_message (o ∷ r) room ≡ read_message (o' ∷ r) room
  unfolding read_message
  same_reading r room = rw (q, whole_alike r)

  -- have the same codes
  pub same_codes : (r : List ℕ) → message_codes (o ∷ r) ≡ message_codes (o' ∷ r)
  unfolding message_codes field_codes rest_codes par_codes field_behind rest_behind pars_behind block_numbers block_end
  same_codes [] = rw q
  same_codes (x ∷ t) = codes_alike o o' x t q

  -- and have their NS at the same place
  pub same_ns : (r : List ℕ) → (ns_place (o ∷ r) ≡ ns_place (o' ∷ r)) × (ns_size (o ∷ r) ≡ ns_size (o' ∷ r))
  unfolding field_behind rest_behind pars_behind block_numbers block_end
  same_ns [] = (rw q, rw q)
  same_ns (x ∷ t) = place_alike o o' x t q
