-- Transparency (7.2.8): what is put in for sending is taken out in receiving, nothing else is taken, and no flag begins inside.
-- Assumes nothing.
use Prim.Native.Nat.{ℕ, zero, suc}
use mathlib.Core.Path.{◌≡◌, refl, sym, ap, ◌∙◌}
use mathlib.Core.Bool.{Bool, true, false}
use mathlib.Core.List.{List, [], ◌∷◌, ◌++◌}
use mathlib.Core.Option.{Option, none, some}
use native.Mathlib.Omega.{arith}
use Rattle.frame.specs.Stuffing.{flag, starts, stuffed, with_first, unstuffed, Cutting, uncut, cut_into, with_front, cut_here, cut, with_rest, unstuffed_part, content_from}
use Rattle.frame.proofs.Scanning.{ones}

-- what is sent is received
pub unstuffed-stuffed : (k : ℕ) (cs : List Bool) → unstuffed (suc k) (stuffed k cs) ≡ some cs
unfolding unstuffed stuffed
unstuffed-stuffed k [] = refl
unstuffed-stuffed k (false ∷ cs) = ap (with_first false) (unstuffed-stuffed 4 cs)
unstuffed-stuffed zero (true ∷ cs) = ap (with_first true) (unstuffed-stuffed 4 cs)
unstuffed-stuffed (suc k) (true ∷ cs) = ap (with_first true) (unstuffed-stuffed k cs)

-- what is sent where k ones may still come in receiving: after five ones a zero first
abbrev sent_as : ℕ → List Bool → List Bool
sent_as zero cs = false ∷ stuffed 4 cs
sent_as (suc k) cs = stuffed k cs

-- a one, and what is sent behind it
sent_one : (k : ℕ) (cs : List Bool) → stuffed k (true ∷ cs) ≡ true ∷ sent_as k cs
unfolding stuffed
sent_one zero cs = refl
sent_one (suc k) cs = refl

-- what is received was sent, wherever receiving stands
received_sent : (k : ℕ) (body cs : List Bool) → unstuffed k body ≡ some cs → body ≡ sent_as k cs
unfolding unstuffed stuffed
received_sent zero [] cs e = absurd (let z : ◌≡◌ {A = ℕ} 0 1 = cc in omega arith)
received_sent (suc k) [] cs e = let n : cs ≡ [] = cc in rw n
received_sent zero (true ∷ body) cs e = absurd (let z : ◌≡◌ {A = ℕ} 0 1 = cc in omega arith)
received_sent zero (false ∷ body) cs e = ap (λ (l : List Bool). false ∷ l) (received_sent 5 body cs e)
received_sent (suc k) (true ∷ body) cs e = go (unstuffed k body) (received_sent k body) e
  where
    go : (o : Option (List Bool)) → ((ds : List Bool) → o ≡ some ds → body ≡ sent_as k ds) → with_first true o ≡ some cs → true ∷ body ≡ stuffed k cs
    go none h f = absurd (let z : ◌≡◌ {A = ℕ} 0 1 = cc in omega arith)
    go (some ds) h f = let d : cs ≡ true ∷ ds = cc in rw d (ap (λ (l : List Bool). true ∷ l) (h ds refl) ∙ sym (sent_one k ds))
received_sent (suc k) (false ∷ body) cs e = go (unstuffed 5 body) (received_sent 5 body) e
  where
    go : (o : Option (List Bool)) → ((ds : List Bool) → o ≡ some ds → body ≡ stuffed 4 ds) → with_first false o ≡ some cs → false ∷ body ≡ stuffed k cs
    go none h f = absurd (let z : ◌≡◌ {A = ℕ} 0 1 = cc in omega arith)
    go (some ds) h f = let d : cs ≡ false ∷ ds = cc in rw d (ap (λ (l : List Bool). false ∷ l) (h ds refl))

-- what is received was sent
pub stuffed-unstuffed : (k : ℕ) (body cs : List Bool) → unstuffed (suc k) body ≡ some cs → body ≡ stuffed k cs
stuffed-unstuffed k body cs e = received_sent (suc k) body cs e

-- after k more ones a zero is put in: k + 2 in a row do not follow
no_run : (k : ℕ) (cs q t : List Bool) → starts (ones (suc (suc k)) q) (stuffed k cs ++ (false ∷ t)) ≡ false
unfolding starts stuffed
no_run k [] q t = refl
no_run k (false ∷ cs) q t = refl
no_run zero (true ∷ cs) q t = refl
no_run (suc k) (true ∷ cs) q t = no_run k cs q t

-- no flag begins at a zero before stuffed bits that a zero follows
pub no_flag_zero : (cs t : List Bool) → starts flag (false ∷ (stuffed 4 cs ++ (false ∷ t))) ≡ false
unfolding starts
no_flag_zero cs t = no_run 4 cs (false ∷ []) t

-- no flag begins inside stuffed bits
pub cut_stuffed : (k : ℕ) (cs r : List Bool) → cut (stuffed k cs ++ (flag ++ r)) ≡ cut_into (stuffed k cs) (flag ++ r)
unfolding starts stuffed cut_here
cut_stuffed k [] r = refl
cut_stuffed k (false ∷ cs) r = rw (no_flag_zero cs (ones 6 (false ∷ r))) (ap (with_front false) (cut_stuffed 4 cs r))
cut_stuffed zero (true ∷ cs) r = rw (no_flag_zero cs (ones 6 (false ∷ r))) (ap (λ (x : Cutting). with_front true (with_front false x)) (cut_stuffed 4 cs r))
cut_stuffed (suc k) (true ∷ cs) r = ap (with_front true) (cut_stuffed k cs r)

-- what is cut off and what follows are the bits, and what follows begins with a flag
cut_here_lem : (l : List Bool) (f : Bool) (body r : List Bool) → starts flag l ≡ f → cut_here f l ≡ cut_into body r → (l ≡ body ++ r) × (starts flag r ≡ true)
unfolding cut_here
cut_here_lem [] f body r s e = absurd (let z : ◌≡◌ {A = ℕ} 0 1 = cc in omega arith)
cut_here_lem (b ∷ l) true body r s e =
    let n : body ≡ [] = cc in
    let m : r ≡ b ∷ l = cc in
    rw (n, m) (refl, s)
cut_here_lem (b ∷ l) false body r s e = go (cut l) (λ d x. cut_here_lem l (starts flag l) d r refl x) e
  where
    go : (x : Cutting) → ((d : List Bool) → x ≡ cut_into d r → (l ≡ d ++ r) × (starts flag r ≡ true)) → with_front b x ≡ cut_into body r → (b ∷ l ≡ body ++ r) × (starts flag r ≡ true)
    go uncut h f = absurd (let z : ◌≡◌ {A = ℕ} 0 1 = cc in omega arith)
    go (cut_into d q) h f =
        let n : body ≡ b ∷ d = cc in
        let m : cut_into d q ≡ cut_into d r = cc in
        rw n (ap (λ (t : List Bool). b ∷ t) (h d m).0, (h d m).1)

-- the cut: the bits before the first flag, and those from it on
pub cut_is : (l body r : List Bool) → cut l ≡ cut_into body r → (l ≡ body ++ r) × (starts flag r ≡ true)
cut_is l body r e = cut_here_lem l (starts flag l) body r refl e

-- a content that was sent is found, up to its closing flag
pub content_stuffed : (cs r : List Bool) → content_from 5 (stuffed 4 cs ++ (flag ++ r)) ≡ cut_into cs (flag ++ r)
unfolding content_from
content_stuffed cs r = rw (cut_stuffed 4 cs r, unstuffed-stuffed 4 cs)

-- a content that is found was sent, and a flag follows it
pub content_is : (l cs r : List Bool) → content_from 5 l ≡ cut_into cs r → (l ≡ stuffed 4 cs ++ r) × (starts flag r ≡ true)
unfolding content_from
content_is l cs r e = go (cut l) refl e
  where
    go : (x : Cutting) → cut l ≡ x → unstuffed_part 5 x ≡ cut_into cs r → (l ≡ stuffed 4 cs ++ r) × (starts flag r ≡ true)
    go uncut c f = absurd (let z : ◌≡◌ {A = ℕ} 0 1 = cc in omega arith)
    go (cut_into body q) c f = inner (unstuffed 5 body) refl f
      where
        inner : (o : Option (List Bool)) → unstuffed 5 body ≡ o → with_rest o q ≡ cut_into cs r → (l ≡ stuffed 4 cs ++ r) × (starts flag r ≡ true)
        inner none u g = absurd (let z : ◌≡◌ {A = ℕ} 0 1 = cc in omega arith)
        inner (some ds) u g =
            let d : unstuffed 5 body ≡ some cs = cc in
            let p : cut l ≡ cut_into body r = cc in
            rw (← (stuffed-unstuffed 4 body cs d)) (cut_is l body r p)
