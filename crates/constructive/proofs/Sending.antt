-- A stop sent behind those after it, which move down by one. Assumes nothing.
use mathlib.Core.Path.{◌≡◌, sym, ap, ◌∙◌}
use Prim.Native.Nat.{ℕ, suc, ◌+◌, ◌-◌, ◌≤◌, ◌<◌}
use native.Mathlib.Omega.{arith}
use mathlib.Core.List.{List, [], ◌∷◌, ◌++◌}
use lib.ListN.{length, get_or, set, take, drop, length-drop, take-append-drop}
use lib.Seq.{length-take-le, take-suc, get_or-drop, take-length}
use Rattle.wire.specs.Bytes.{write}
use Rattle.wire.specs.Laws.Bytes.{length_write, byte_after, write_write, write_byte}

pub record Sending (stops₀ : List ℕ) (from : ℕ) (stops : List ℕ) (i end : ℕ) : Type 0 where
  pub inside : from < length stops₀
  pub last : end + 1 ≡ length stops₀
  pub lower : from ≤ i
  pub within : i ≤ end
  pub laid : stops ≡ write stops₀ from (take (i - from) (drop (from + 1) stops₀))

pub begins : (stops : List ℕ) (from : ℕ) → from < length stops → Sending stops from stops from (length stops - 1)
unfolding write
begins stops from h =
    let e : from - from ≡ 0 = omega arith in
    let f : from + 0 ≡ from = omega arith in
    record { inside = h; last = omega (arith, h); lower = omega arith; within = omega (arith, h); laid = sym (rw (e, f) (take-append-drop from stops)) }

module _ (stops₀ : List ℕ) (from : ℕ) (stops : List ℕ) (i end : ℕ) (g : Sending stops₀ from stops i end) where
  abbrev line : List ℕ
  line = drop (from + 1) stops₀

  abbrev done : ℕ
  done = i - from

  long : length line ≡ length stops₀ - (from + 1)
  long = length-drop (from + 1) stops₀

  front : length (take done line) ≡ done
  front = length-take-le done line (omega (arith, long, g.last, g.inside, g.within, g.lower))

  pub length_same : length stops ≡ length stops₀
  length_same = ap length g.laid ∙ length_write stops₀ from (take done line) (omega (arith, front, g.last, g.inside, g.within, g.lower))

  -- a number more behind those that stand already
  more : (x : ℕ) → set stops i x ≡ write stops₀ from (take done line ++ (x ∷ []))
  more x =
      let at : from + length (take done line) ≡ i = omega (arith, front, g.lower) in
      write_byte stops i x (omega (arith, length_same, g.last, g.within))
      ∙ ap (λ (l : List ℕ). write l i (x ∷ [])) g.laid
      ∙ ap (λ (k : ℕ). write (write stops₀ from (take done line)) k (x ∷ [])) (sym at)
      ∙ write_write stops₀ from (take done line) (omega (arith, at, g.last, g.within)) (x ∷ []) (omega (arith, at, g.last, g.within))

  next : i < end → get_or stops (i + 1) 0 ≡ get_or line done 0
  next h =
      ap (λ (l : List ℕ). get_or l (i + 1) 0) g.laid
      ∙ byte_after stops₀ from (take done line) (omega (arith, front, g.last, g.within, g.lower)) (i + 1) (omega (arith, front, g.lower))
      ∙ ap (λ (k : ℕ). get_or stops₀ k 0) (let e : i + 1 ≡ from + 1 + done = omega (arith, g.lower) in e)
      ∙ sym (get_or-drop (from + 1) stops₀ done 0)

  pub goes_on : i < end → Sending stops₀ from (set stops i (get_or stops (i + 1) 0)) (i + 1) end
  goes_on h = record {
    inside = g.inside;
    last = g.last;
    lower = omega (arith, g.lower);
    within = omega arith;
    laid =
        more (get_or stops (i + 1) 0)
        ∙ ap (λ (x : ℕ). write stops₀ from (take done line ++ (x ∷ []))) (next h)
        ∙ ap (write stops₀ from) (sym (take-suc line done 0 (omega (arith, long, g.last, g.lower))))
        ∙ ap (λ (k : ℕ). write stops₀ from (take k line)) (let e : suc done ≡ i + 1 - from = omega (arith, g.lower) in e);
  }

  pub ends : end ≤ i → (x : ℕ) → set stops end x ≡ write stops₀ from (line ++ (x ∷ []))
  ends h x =
      let here : end ≡ i = omega (arith, g.within) in
      let all : done ≡ length line = omega (arith, long, g.last, g.within, g.inside) in
      ap (λ (k : ℕ). set stops k x) here ∙ more x ∙ ap (λ (k : ℕ). write stops₀ from (take k line ++ (x ∷ []))) all ∙ ap (λ (l : List ℕ). write stops₀ from (l ++ (x ∷ []))) (take-length line)
