-- A stop brought before others, which move up by one. Assumes nothing.
use mathlib.Core.Path.{◌≡◌, sym, ap, ◌∙◌}
use Prim.Native.Nat.{ℕ, suc, ◌+◌, ◌-◌, ◌≤◌, ◌<◌}
use native.Mathlib.Omega.{arith}
use mathlib.Core.List.{List, [], ◌∷◌, ◌++◌}
use lib.ListN.{length, get_or, set, take, drop, length-drop, take-append-drop}
use lib.Seq.{length-take-le, take-suc, get_or-drop}
use Rattle.wire.specs.Bytes.{write}
use Rattle.wire.specs.Laws.Bytes.{length_write, byte_after, write_write, write_byte}

-- what stands from `to` on in the end, before the stop brought there is taken out of its old place
abbrev pub moved : List ℕ → ℕ → ℕ → List ℕ
moved stops to from = get_or stops from 0 ∷ drop to stops

pub record Bringing (stops₀ : List ℕ) (to from : ℕ) (stops : List ℕ) (carried i end : ℕ) : Type 0 where
  pub order : to ≤ from
  pub inside : from < length stops₀
  pub last : end ≡ from + 1
  pub lower : to ≤ i
  pub within : i ≤ end
  pub laid : stops ≡ write stops₀ to (take (i - to) (moved stops₀ to from))
  pub holds : carried ≡ get_or (moved stops₀ to from) (i - to) 0

pub begins : (stops : List ℕ) (to from : ℕ) → to ≤ from → from < length stops → stops ≡ write stops to (take (to - to) (moved stops to from))
unfolding write
begins stops to from h k =
    let e : to - to ≡ 0 = omega arith in
    let f : to + 0 ≡ to = omega arith in
    sym (rw (e, f) (take-append-drop to stops))

module _ (stops₀ : List ℕ) (to from : ℕ) (stops : List ℕ) (carried i end : ℕ) (g : Bringing stops₀ to from stops carried i end) where
  abbrev done : ℕ
  done = i - to

  abbrev line : List ℕ
  line = moved stops₀ to from

  long : length line ≡ suc (length stops₀ - to)
  long = ap suc (length-drop to stops₀)

  front : i < end → length (take done line) ≡ done
  front h = length-take-le done line (omega (arith, long, g.last, g.inside))

  pub length_same : length stops ≡ length stops₀
  length_same =
      let l = length-take-le done line (omega (arith, long, g.last, g.inside, g.within, g.order, g.lower)) in
      ap length g.laid ∙ length_write stops₀ to (take done line) (omega (arith, l, g.last, g.inside, g.within, g.order, g.lower))

  pub goes_on : i < end → Bringing stops₀ to from (set stops i carried) (get_or stops i 0) (i + 1) end
  goes_on h =
      let l = front h in
      let at : to + length (take done line) ≡ i = omega (arith, l, g.lower) in
      let here : i < length stops = omega (arith, length_same, g.last, g.inside) in
      let more : i + 1 - to ≡ suc done = omega (arith, g.lower) in
      let room : to + length (take done line) ≤ length stops₀ = omega (arith, at, g.last, g.inside) in
      record {
        order = g.order;
        inside = g.inside;
        last = g.last;
        lower = omega (arith, g.lower);
        within = omega arith;
        laid =
            write_byte stops i carried here
            ∙ ap (λ (l : List ℕ). write l i (carried ∷ [])) g.laid
            ∙ ap (λ (k : ℕ). write (write stops₀ to (take done line)) k (carried ∷ [])) (sym at)
            ∙ write_write stops₀ to (take done line) room (carried ∷ []) (omega (arith, at, g.last, g.inside))
            ∙ ap (λ (c : ℕ). write stops₀ to (take done line ++ (c ∷ []))) g.holds
            ∙ ap (write stops₀ to) (sym (take-suc line done 0 (omega (arith, long, g.last, g.inside))) ∙ ap (λ (k : ℕ). take k line) (sym more));
        holds =
            ap (λ (l : List ℕ). get_or l i 0) g.laid
            ∙ byte_after stops₀ to (take done line) room i (omega (arith, at))
            ∙ ap (λ (k : ℕ). get_or stops₀ k 0) (let e : i ≡ to + done = omega (arith, g.lower) in e)
            ∙ sym (get_or-drop to stops₀ done 0)
            ∙ ap (λ (k : ℕ). get_or line k 0) (sym more);
      }
