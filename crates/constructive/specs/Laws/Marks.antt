-- Stops that are marked one after another: a row's mark says whether it is one of them. Assumes nothing.
use Rattle.std.specs.Prelude.{◌≡◌, refl, ℕ, ◌+◌, ◌≤◌, ◌<◌, suc, Bool, true, false, List, [], ◌∷◌, ◌++◌, eqb, length, get_or, set, replicate}
use Rattle.std.proofs.Common.{ap, ◌∙◌, subst, append_assoc, append-nil, length-set, arith, get_or-set_same, get_or-set_other, eqb-true, lt-ltb}
use Rattle.std.proofs.lemmas.List.{length-replicate, get_or-replicate}
use Rattle.std.proofs.lemmas.Bool.{eqb-false}
use Rattle.lists.specs.Count.{one, count, is_in}
use Rattle.lists.specs.Laws.Once.{count_append}
use Rattle.sheet.specs.Fields.{rows_of}
use Rattle.constructive.specs.Marks.{Marks, marked_by}

-- ---- one after another
mark_one : (s marks xs : List ℕ) (y : ℕ) → y < length marks → Marks s marks xs → Marks s (set marks y 1) (xs ++ (y ∷ []))
unfolding count
mark_one s marks xs y h m = record {
  long = omega (arith, m.long, length-set marks y 1);
  mark = λ c l. go c l (eqb c y) refl;
}
  where
    go : (c : ℕ) → c < rows_of s → (b : Bool) → eqb c y ≡ b → get_or (set marks y 1) c 0 ≡ one (is_in c (xs ++ (y ∷ [])))
    go c l true e =
        let n : count c (xs ++ (y ∷ [])) ≡ count c xs + 1 = count_append c xs (y ∷ []) ∙ rw e in
        rw (n, lt-ltb 0 (count c xs + 1) (omega arith), eqb-true c y e) (get_or-set_same marks y 1 0 h)
    go c l false e =
        let n : count c (xs ++ (y ∷ [])) ≡ count c xs = count_append c xs (y ∷ []) ∙ rw e (omega arith) in
        rw n (get_or-set_other marks y c 1 0 (eqb-false c y e) ∙ m.mark c l)

-- those that are marked so far, with more
pub marks_more : (s ys marks xs : List ℕ) → ((k : ℕ) → k < length ys → get_or ys k 0 < length marks) → Marks s marks xs → Marks s (marked_by marks ys) (xs ++ ys)
unfolding marked_by
marks_more s [] marks xs f m = rw (append-nil xs) m
marks_more s (y ∷ ys) marks xs f m =
    subst (Marks s (marked_by (set marks y 1) ys)) (append_assoc xs (y ∷ []) ys)
    (marks_more s ys (set marks y 1) (xs ++ (y ∷ [])) (λ k h. rw (length-set marks y 1) (f (suc k) (omega arith))) (mark_one s marks xs y (f 0 (omega arith)) m))

pub marks_none : (s marks : List ℕ) → rows_of s ≤ length marks → Marks s (replicate (length marks) 0) []
unfolding count
marks_none s marks h = record { long = omega (arith, length-replicate {A = ℕ} (length marks) 0); mark = λ c l. get_or-replicate (length marks) c 0 0 (omega arith) }

-- ---- a mark says so
marked_so : (b : Bool) → eqb (one b) 1 ≡ b
marked_so true = refl
marked_so false = refl

pub marked_aside : (s marks aside : List ℕ) → Marks s marks aside → (row : ℕ) → row < rows_of s → eqb (get_or marks row 0) 1 ≡ is_in row aside
marked_aside s marks aside m row h = ap (λ (n : ℕ). eqb n 1) (m.mark row h) ∙ marked_so (is_in row aside)
