-- `frame::Run::count_flags` meets its contract. The loop's invariant: what was counted, and what is counted from here on, is the whole. Assumes nothing.
use Prim.Native.Nat.{ℕ, ◌+◌, ◌-◌, ◌*◌}
use mathlib.Core.Bool.{true}
use mathlib.Core.Path.{◌≡◌, sym, ap, ◌∙◌}
use native.Mathlib.Omega.{arith}
use lib.ListN.{drop}
use Rattle.frame.specs.Stuffing.{flag, starts}
use Rattle.frame.specs.Frame.{flags_at}
use Rattle.frame.specs.Run.{seen}
use Rattle.frame.proofs.Sights.{length_seen, flags_more, flags_stop, flags_next, flags_none}
use Rattle.frame.proofs.Run.count_flags.Goals as goal

pub loop-k-preserved : goal.loop-k-preserved
loop-k-preserved c =
    let run = c.args.self in
    let k = c.loop-k.k in
    let at = c.args.start + k * 8 in
    let h : starts flag (drop at (seen run)) ≡ true = sym c.flag_at.ensures ∙ c.if-not-flag_at.false in
    let e : c.args.start + (k + 1) * 8 ≡ at + 8 = omega arith in (
      omega (arith, flags_next (seen run) at (omega (arith, length_seen run)) h, length_seen run),
      ap (λ (n : ℕ). k + 1 + flags_at (c.args.most - (k + 1)) (drop n (seen run))) e
          ∙ flags_more (seen run) c.args.most k at (omega arith) h ∙ c.loop-k.invariant.1,
    )

pub returns-then-not-flag_at : goal.returns-then-not-flag_at
returns-then-not-flag_at c =
    flags_stop (seen c.args.self) c.args.most c.loop-k.k (c.args.start + c.loop-k.k * 8) (omega arith) (sym c.flag_at.ensures ∙ c.if-not-flag_at.true) ∙ c.loop-k.invariant.1

pub returns : goal.returns
returns c =
    let run = c.args.self in
    omega (arith, flags_none c.args.most c.loop-k.k (drop (c.args.start + c.loop-k.k * 8) (seen run)) (omega arith), c.loop-k.invariant.1)
