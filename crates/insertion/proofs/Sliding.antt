-- A stop that slides to another place of a list. Assumes nothing.
use mathlib.Core.Path.{◌≡◌, sym, ap, ◌∙◌}
use Prim.Native.Nat.{ℕ, suc, ◌+◌, ◌-◌, ◌≤◌, ◌<◌}
use native.Mathlib.Numerals.{add-one}
use native.Mathlib.Omega.{arith}
use mathlib.Core.List.{List, [], ◌∷◌, ◌++◌, append_assoc, append-nil}
use lib.ListN.{length, get_or, take, drop, length-append, length-drop, take-append-drop}
use lib.Seq.{length-take-le, take-add, take_at, drop_at, get_or_at, split_at, take-append_seam, take-append-add, drop-append-add, drop-length, drop-drop}
use Rattle.lists.specs.Moved.{without, inserted}
use Rattle.wire.specs.Bytes.{write}

-- put in between two parts
pub inserted_at : (p q : List ℕ) (x n : ℕ) → length p ≡ n → inserted n x (p ++ q) ≡ p ++ (x ∷ q)
inserted_at p q x n e = rw (take_at p q n e, drop_at p q n e)

-- ---- before others
pub brought : (l : List ℕ) (to at : ℕ) → to ≤ at → at < length l → write l to (get_or l at 0 ∷ take (at - to) (drop to l)) ≡ inserted to (get_or l at 0) (without at l)
unfolding write
brought l to at h k =
    let x = get_or l at 0 in
    let passed = take (at - to) (drop to l) in
    let after = drop (at + 1) l in
    let n : to + (at - to) ≡ at = omega arith in
    let front : take at l ≡ take to l ++ passed = ap (λ (m : ℕ). take m l) (sym n) ∙ take-add to (at - to) l in
    let long : length passed ≡ at - to = length-take-le (at - to) (drop to l) (omega (arith, length-drop to l)) in
    let end : to + suc (length passed) ≡ at + 1 = omega arith in
    ap (λ (m : ℕ). take to l ++ (x ∷ (passed ++ drop m l))) end
    ∙ sym (inserted_at (take to l) (passed ++ after) x to (length-take-le to l (omega arith)))
    ∙ ap (inserted to x) (sym (append_assoc (take to l) passed after) ∙ ap (λ (p : List ℕ). p ++ after) (sym front))

-- ---- behind others
-- those that it passes are written over it, and it behind them
over : (p q : List ℕ) (x : ℕ) → write (p ++ (x ∷ q)) (length p) (q ++ (x ∷ [])) ≡ p ++ (q ++ (x ∷ []))
unfolding write
over p q x =
    let long : length (q ++ (x ∷ [])) ≡ length (x ∷ q) = length-append q (x ∷ []) ∙ omega arith in
    let none : drop (length p + length (q ++ (x ∷ []))) (p ++ (x ∷ q)) ≡ [] = ap (λ (n : ℕ). drop (length p + n) (p ++ (x ∷ q))) long ∙ drop-append-add p (x ∷ q) (length (x ∷ q)) ∙ drop-length (x ∷ q) in
    ap (λ (r : List ℕ). r ++ (q ++ (x ∷ []) ++ drop (length p + length (q ++ (x ∷ []))) (p ++ (x ∷ q)))) (take-append_seam p (x ∷ q))
    ∙ ap (λ (r : List ℕ). p ++ (q ++ (x ∷ []) ++ r)) none
    ∙ ap (◌++◌ p) (append-nil (q ++ (x ∷ [])))

pub sent : (l : List ℕ) (to at : ℕ) (front : List ℕ) → at < to → to < length l → front ≡ write (take (to + 1) l) at (drop (at + 1) (take (to + 1) l) ++ (get_or (take (to + 1) l) at 0 ∷ []))
    → front ++ drop (to + 1) l ≡ inserted to (get_or l at 0) (without at l)
sent l to at front h k e =
    let x = get_or l at 0 in
    let p = take at l in
    let q = drop (at + 1) l in
    let n = to - at in
    let passed = take n q in
    let long : length p ≡ at = length-take-le at l (omega arith) in
    let room : length passed ≡ n = length-take-le n q (omega (arith, length-drop (at + 1) l)) in
    let whole : l ≡ p ++ (x ∷ q) = split_at l at 0 (omega arith) ∙ ap (λ (m : ℕ). p ++ (x ∷ drop m l)) (sym (add-one at)) in
    let upto : take (to + 1) l ≡ p ++ (x ∷ passed) =
    ap (take (to + 1)) whole ∙ ap (λ (m : ℕ). take m (p ++ (x ∷ q))) (let m : to + 1 ≡ length p + suc n = omega arith in m) ∙ take-append-add p (x ∷ q) (suc n) in
    let behind : drop (to + 1) l ≡ drop n q = ap (λ (m : ℕ). drop m l) (let m : to + 1 ≡ at + 1 + n = omega arith in m) ∙ sym (drop-drop n (at + 1) l) in
    let moved : drop (at + 1) (p ++ (x ∷ passed)) ≡ passed = ap (λ (m : ℕ). drop (m + 1) (p ++ (x ∷ passed))) (sym long) ∙ drop-append-add p (x ∷ passed) 1 in
    let all : length (p ++ passed) ≡ to = length-append p passed ∙ omega arith in
    let flat : p ++ (passed ++ (x ∷ [])) ++ drop n q ≡ p ++ (passed ++ (x ∷ drop n q)) = simp append_assoc in
    ap (λ (r : List ℕ). r ++ drop (to + 1) l)
    (e
    ∙ ap (λ (f : List ℕ). write f at (drop (at + 1) f ++ (get_or f at 0 ∷ []))) upto
    ∙ ap (λ (r : List ℕ). write (p ++ (x ∷ passed)) at (r ++ (get_or (p ++ (x ∷ passed)) at 0 ∷ []))) moved
    ∙ ap (λ (y : ℕ). write (p ++ (x ∷ passed)) at (passed ++ (y ∷ []))) (get_or_at p x passed 0 at long)
    ∙ ap (λ (m : ℕ). write (p ++ (x ∷ passed)) m (passed ++ (x ∷ []))) (sym long)
    ∙ over p passed x)
    ∙ ap (λ (r : List ℕ). p ++ (passed ++ (x ∷ [])) ++ r) behind
    ∙ flat
    ∙ sym (append_assoc p passed (x ∷ drop n q))
    ∙ sym (inserted_at (p ++ passed) (drop n q) x to all)
    ∙ ap (inserted to x) (append_assoc p passed (drop n q) ∙ ap (◌++◌ p) (take-append-drop n q))
