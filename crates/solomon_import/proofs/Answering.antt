-- The number that is returned and the bytes after it (`import`). Assumes nothing.
use mathlib.Core.Path.{◌≡◌, refl, sym, ap, ◌∙◌, subst}
use Prim.Native.Nat.{ℕ, suc, ◌-◌, ◌*◌, ◌≤◌, ◌<◌}
use native.Mathlib.Nat.{mul-le-mul}
use native.Mathlib.Omega.{arith}
use mathlib.Core.List.{List}
use lib.IntN.{ℤ, pos, negsuc}
use lib.ListN.{length}
use Rattle.std.specs.Prelude.{Err}
use Rattle.sheet.specs.Fields.{most_rows}
use Rattle.sheet.specs.declared.refusal.Refusal.{Refusal}
use Rattle.sheet.specs.Told.{number_of}
use Rattle.sheet.specs.Laws.Told.{number_positive}
use Rattle.solomon_import.specs.Instance.{customers_of}
use Rattle.solomon_import.specs.Import.{import_answer, import_length, import_refusal, import_number, ImportBytes, ImportAnswered, ImportAccepted, SheetWritten}
use Rattle.solomon_import.specs.Reading.{text_refusal}
use Rattle.solomon_import.specs.Laws.Taken.{taken, refusal_told, refusal_short, refusal_none}
use Rattle.solomon_import.specs.Laws.Accepted.{import_accepted}

-- ---- the length
pub square_small : (n : ℕ) → n ≤ most_rows → n * n ≤ 101 * 101
square_small n h = mul-le-mul h h

length_small : (n : ℕ) → n ≤ most_rows → import_length n ≤ 86544
unfolding import_length
length_small n h = let s = square_small n h in omega arith

pub rows_few : (text : List ℕ) (n : ℕ) → 0 ≡ text_refusal text → n ≡ length (customers_of text) → n ≤ most_rows
rows_few text n e c = subst (λ (k : ℕ). k ≤ most_rows) (sym c) (taken text (sym e)).few

pub long_small : (text : List ℕ) (n long : ℕ) → 0 ≡ text_refusal text → n ≡ length (customers_of text) → long ≡ import_length n → long ≤ 86544
long_small text n long e c l = subst (λ (k : ℕ). k ≤ 86544) (sym l) (length_small n (rows_few text n e c))

-- ---- the answer
refused_answer : (text lent : List ℕ) (r : ℤ) (k : ℕ) → import_refusal text (length lent) ≡ suc k → r ≡ negsuc k → ImportAnswered text lent r lent
refused_answer text lent r k e f = record {
  number = f ∙ ap (λ (n : ℕ). import_number n (import_length (length (customers_of text)))) (sym e);
  bytes = subst (λ (n : ℕ). ImportBytes n text lent lent) (sym e) refl;
}

refused_both : (text lent : List ℕ) (r : ℤ) (k : ℕ) → import_refusal text (length lent) ≡ suc k → r ≡ negsuc k → ImportAnswered text lent r lent × ImportAccepted r lent
refused_both text lent r k e f = let a = refused_answer text lent r k e f in (a, import_accepted text lent r lent a)

pub told_answer : (text lent : List ℕ) (refusal : Refusal) → number_of refusal ≡ text_refusal text → ImportAnswered text lent (import_answer (Err refusal)) lent × ImportAccepted (import_answer (Err refusal)) lent
told_answer text lent refusal e = let k : number_of refusal ≡ suc (number_of refusal - 1) = omega (arith, number_positive refusal) in refused_both text lent (import_answer (Err refusal)) (number_of refusal - 1) (refusal_told text (length lent) (number_of refusal - 1) (sym e ∙ k)) refl

pub short_answer : (text lent : List ℕ) (n : ℕ) → 0 ≡ text_refusal text → n ≡ length (customers_of text) → length lent < import_length n → ImportAnswered text lent (negsuc 3) lent × ImportAccepted (negsuc 3) lent
short_answer text lent n e c l = refused_both text lent (negsuc 3) 3 (refusal_short text (length lent) (sym e) (subst (λ (k : ℕ). length lent < import_length k) c l)) refl

pub written_answer : (text lent out : List ℕ) (n long : ℕ) → 0 ≡ text_refusal text → n ≡ length (customers_of text) → long ≡ import_length n → long ≤ length lent → SheetWritten text lent out → ImportAnswered text lent (pos long) out × ImportAccepted (pos long) out
written_answer text lent out n long e c l r w = (answer, import_accepted text lent (pos long) out answer)
  where
    long_is : long ≡ import_length (length (customers_of text))
    long_is = l ∙ ap import_length c

    none : import_refusal text (length lent) ≡ 0
    none = refusal_none text (length lent) (sym e) (subst (λ (k : ℕ). k ≤ length lent) long_is r)

    answer : ImportAnswered text lent (pos long) out
    answer = record {
      number = ap pos long_is ∙ ap (λ (k : ℕ). import_number k (import_length (length (customers_of text)))) (sym none);
      bytes = subst (λ (k : ℕ). ImportBytes k text lent out) (sym none) w;
    }
