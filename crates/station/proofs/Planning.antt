-- What carries a plan out does what it leads to.
-- Assumes nothing.
use Prim.Native.Nat.{ℕ}
use mathlib.Core.List.{List, ◌++◌}
use mathlib.Core.Path.{◌≡◌, ◌∙◌}
use lib.ListN.{length}
use Rattle.octets.specs.Lay.{put}
use Rattle.octets.proofs.Laying.{put-nil}
use Rattle.table.specs.declared.Phase.{Phase}
use Rattle.station.specs.Acting.{quiet}
use Rattle.station.specs.Stepping.{told_no, step_told, step_reply, Did}
use Rattle.station.specs.Inner.{sent_of, stored_of, planned}
use Rattle.station.specs.declared.Stepped.{Stepped}
use Rattle.station.specs.declared.sending.Plan.{Plan}

-- nothing was sent in a field, and nothing stored
pub did_quiet : (n : ℕ) (next : Phase) (out store : List ℕ) {r : Stepped} → step_told r ≡ step_reply (quiet n next) → Did (quiet n next) out store r out store
did_quiet n next out store e = record { reply = e; output = simp put-nil; store = simp put-nil }

-- what a plan says was put and stored, and told
pub did_plan : (p : Plan) {out₀ out₁ store₀ store₁ : List ℕ} {r : Stepped} {first second stored : ℕ}
    → step_told r ≡ record { no = told_no p.told; signal = p.signal; first = first; second = second; stored = stored; next = p.next }
    → first ≡ length (sent_of p.first) → second ≡ length (sent_of p.second) → out₁ ≡ put (sent_of p.first ++ sent_of p.second) out₀
    → (stored ≡ length (stored_of p.storing)) × (store₁ ≡ put (stored_of p.storing) store₀) → Did (planned p) out₀ store₀ r out₁ store₁
did_plan p e f s o k = record { reply = e ∙ rw (f, s, k.0); output = o; store = k.1 }
