-- A round copied over the front of a table, last stop first, and two rounds end to end. Assumes nothing.
use mathlib.Core.Path.{◌≡◌, refl, sym, ap, ◌∙◌}
use Prim.Native.Nat.{ℕ, suc, ◌+◌, ◌-◌, ◌≤◌, ◌<◌}
use native.Mathlib.Numerals.{add-one}
use native.Mathlib.Omega.{arith}
use mathlib.Core.Bool.{Bool, true, false}
use mathlib.Core.List.{List, [], ◌∷◌, ◌++◌, reverse, append_assoc, append-nil}
use lib.ListN.{length, get_or, set, take, drop, length-append, length-drop, length-reverse, drop_of_length-le}
use lib.Seq.{length-take-le, take_all, take-suc, drop-drop, set_at}
use Rattle.std.proofs.lemmas.List.{reverse-append}
use Rattle.wire.specs.Bytes.{write}
use Rattle.wire.specs.Laws.Bytes.{length_write, take_write, write_write, write_none}
use Rattle.clarke_wright_slots.specs.Slots.{or_reversed, end_to_end}

-- ---- last stop first
-- a write that begins one place earlier
write_before : (s : List ℕ) (at x : ℕ) (xs : List ℕ) → at + 1 + length xs ≤ length s → set (write s (at + 1) xs) at x ≡ write s at (x ∷ xs)
unfolding write
write_before s at x xs room =
    let rest = xs ++ drop (at + 1 + length xs) s in
    let first : take (at + 1) s ≡ take at s ++ (get_or s at 0 ∷ []) = ap (λ (n : ℕ). take n s) (add-one at) ∙ take-suc s at 0 (omega arith) in
    let e : at + 1 + length xs ≡ at + suc (length xs) = omega arith in
    ap (λ (l : List ℕ). set (l ++ rest) at x) first
    ∙ ap (λ (l : List ℕ). set l at x) (append_assoc (take at s) (get_or s at 0 ∷ []) rest)
    ∙ set_at (take at s) (get_or s at 0) rest x at (length-take-le at s (omega arith))
    ∙ ap (λ (n : ℕ). take at s ++ (x ∷ (xs ++ drop n s))) e

pub record CopyingBack (route to₀ : List ℕ) (n : ℕ) (to : List ℕ) (i : ℕ) : Type 0 where
  pub room : length route ≤ length to₀
  pub last : n ≡ length route
  pub within : i ≤ n
  pub laid : to ≡ write to₀ (n - i) (reverse (take i route))

pub back_begins : (route to : List ℕ) → length route ≤ length to → CopyingBack route to (length route) to 0
back_begins route to h = record { room = h; last = refl; within = omega arith; laid = write_none to (length route - 0) }

module _ (route to₀ : List ℕ) (n : ℕ) (to : List ℕ) (i : ℕ) (g : CopyingBack route to₀ n to i) where
  back_front : length (reverse (take i route)) ≡ i
  back_front = length-reverse (take i route) ∙ length-take-le i route (omega (arith, g.last, g.within))

  pub back_goes_on : i < n → CopyingBack route to₀ n (set to (n - 1 - i) (get_or route i 0)) (i + 1)
  back_goes_on h =
      let x = get_or route i 0 in
      let at = n - 1 - i in
      let e : n - i ≡ at + 1 = omega arith in
      let f : at ≡ n - (i + 1) = omega arith in
      record {
        room = g.room;
        last = g.last;
        within = omega arith;
        laid =
            ap (λ (l : List ℕ). set l at x) (g.laid ∙ ap (λ (m : ℕ). write to₀ m (reverse (take i route))) e)
            ∙ write_before to₀ at x (reverse (take i route)) (omega (arith, back_front, g.room, g.last))
            ∙ ap (write to₀ at) (sym (ap reverse (ap (λ (m : ℕ). take m route) (add-one i) ∙ take-suc route i 0 (omega (arith, g.last))) ∙ reverse-append (take i route) (x ∷ [])))
            ∙ ap (λ (m : ℕ). write to₀ m (reverse (take (i + 1) route))) f;
      }

-- ---- a part that was lent
-- what was written over the front of the rest of a list, said of the whole
write_rest : (s : List ℕ) (at : ℕ) (xs part : List ℕ) → at + length xs ≤ length s → part ≡ write (take (length s - at) (drop at s)) 0 xs → take at s ++ (part ++ drop (length s - at) (drop at s)) ≡ write s at xs
unfolding write
write_rest s at xs part room e =
    let rest : take (length s - at) (drop at s) ≡ drop at s = take_all (length s - at) (drop at s) (omega (arith, length-drop at s)) in
    let none : drop (length s - at) (drop at s) ≡ [] = drop_of_length-le (drop at s) {i = length s - at} (omega (arith, length-drop at s)) in
    let z : 0 + length xs ≡ length xs = omega arith in
    let f : part ≡ xs ++ drop (at + length xs) s = e ∙ ap (λ (l : List ℕ). xs ++ drop (0 + length xs) l) rest ∙ ap (λ (n : ℕ). xs ++ drop n (drop at s)) z ∙ ap (◌++◌ xs) (drop-drop (length xs) at s) in
    ap (λ (l : List ℕ). take at s ++ (part ++ l)) none ∙ ap (◌++◌ (take at s)) (append-nil part ∙ f)

-- two rounds, one behind the other
pub join_ends : (back forth : Bool) (into from trial trial' part : List ℕ) → length into + length from ≤ length trial → trial' ≡ write trial 0 (or_reversed back into)
    → part ≡ write (take (length trial' - length into) (drop (length into) trial')) 0 (or_reversed forth from)
    → take (length into + length from) (take (length into) trial' ++ (part ++ drop (length trial' - length into) (drop (length into) trial'))) ≡ end_to_end back forth into from
join_ends back forth into from trial trial' part room e f =
    let xs = or_reversed back into in
    let ys = or_reversed forth from in
    let a = long back into in
    let b = long forth from in
    let c : length trial' ≡ length trial = ap length e ∙ length_write trial 0 xs (omega arith) in
    let d : length into ≡ 0 + length xs = omega arith in
    let g : length into + length from ≡ 0 + length (xs ++ ys) = omega (arith, length-append xs ys) in
    ap (take (length into + length from))
    (write_rest trial' (length into) ys part (omega arith) f
    ∙ ap (λ (l : List ℕ). write l (length into) ys) e
    ∙ ap (λ (n : ℕ). write (write trial 0 xs) n ys) d
    ∙ write_write trial 0 xs (omega arith) ys (omega arith))
    ∙ ap (λ (n : ℕ). take n (write trial 0 (xs ++ ys))) g
    ∙ take_write trial 0 (xs ++ ys) (omega (arith, length-append xs ys))
  where
    long : (b : Bool) (route : List ℕ) → length (or_reversed b route) ≡ length route
    long false route = refl
    long true route = length-reverse route
