-- A table that keeps its first part and has a chain after it: what stands where. Assumes nothing.
use mathlib.Core.Path.{◌≡◌, sym, ap, ◌∙◌}
use Prim.Native.Nat.{ℕ, ◌+◌, ◌-◌, ◌≤◌}
use native.Mathlib.Omega.{arith}
use mathlib.Core.List.{List, ◌++◌}
use lib.ListN.{length, take, drop, length-append, length-drop, take-append-drop}
use lib.Seq.{length-take-le, take_all, take-take, take_at, drop_at, take-append-le, drop-append-le}

-- a part of a list lies in any beginning that reaches it
part_front : (a b at : ℕ) (x : List ℕ) → a ≤ b → b ≤ at → at ≤ length x → take (b - a) (drop a x) ≡ take (b - a) (drop a (take at x))
part_front a b at x h k l =
    let e = length-take-le at x l in
    let f = length-drop a (take at x) in
    ap (λ (y : List ℕ). take (b - a) (drop a y)) (sym (take-append-drop at x))
    ∙ ap (take (b - a)) (drop-append-le a (take at x) (drop at x) (omega arith))
    ∙ take-append-le (b - a) (drop a (take at x)) (drop at x) (omega arith)

pub part_kept : (a b at : ℕ) (x y : List ℕ) → a ≤ b → b ≤ at → at ≤ length x → at ≤ length y → take at y ≡ take at x → take (b - a) (drop a y) ≡ take (b - a) (drop a x)
part_kept a b at x y h k l m e = part_front a b at y h k m ∙ ap (λ (z : List ℕ). take (b - a) (drop a z)) e ∙ sym (part_front a b at x h k l)

module _ (before after chain : List ℕ) (at end : ℕ) (h : at ≤ length before) (l : end ≤ length after) (same : take at before ++ chain ≡ take end after) where
  pub reaches : end ≡ at + length chain
  reaches =
      let a = length-take-le at before h in
      let b = length-take-le end after l in
      let c = length-append (take at before) chain in
      let d = ap length same in
      omega arith

  pub keeps : take at after ≡ take at before
  keeps =
      let r = reaches in
      sym (take-take at end after (omega arith)) ∙ sym (ap (take at) same) ∙ take_at (take at before) chain at (length-take-le at before h)

  pub lies : take (end - at) (drop at after) ≡ chain
  lies =
      let r = reaches in
      part_front at end end after (omega arith) (omega arith) l
      ∙ sym (ap (λ (y : List ℕ). take (end - at) (drop at y)) same)
      ∙ ap (take (end - at)) (drop_at (take at before) chain at (length-take-le at before h))
      ∙ take_all (end - at) chain (omega arith)
