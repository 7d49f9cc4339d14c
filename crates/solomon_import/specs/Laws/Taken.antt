-- A text that no refusal is told of, clause by clause. Assumes nothing.
use Rattle.std.specs.Prelude.{◌≡◌, refl, ℕ, suc, ◌≤◌, ◌<◌, Bool, true, false, List, [], ◌∷◌, T, leb, length}
use Rattle.std.proofs.Common.{ap, ◌∙◌, arith, leb-true, le-leb}
use Rattle.std.proofs.lemmas.Bool.{false≢true, lt-leb}
use Rattle.std.proofs.lemmas.Float.{T_from_true}
use Rattle.sheet.specs.Fields.{most_rows}
use Rattle.sheet.specs.Refusal.{unless}
use Rattle.solomon_text.specs.Lines.{number_lines}
use Rattle.solomon_import.specs.Instance.{is_instance, form_right, customers_of, capacity_of}
use Rattle.solomon_import.specs.Import.{customers_range, capacity_range, import_length, import_refusal}
use Rattle.solomon_import.specs.Reading.{text_refusal}

-- ---- refusals one after another
unless_passed : (b : Bool) (n next : ℕ) → unless b (suc n) next ≡ 0 → b ≡ true
unless_passed true n next h = refl
unless_passed false n next h = absurd (omega arith)

unless_next : (b : Bool) (n next : ℕ) → unless b (suc n) next ≡ 0 → next ≡ 0
unless_next true n next h = h
unless_next false n next h = absurd (omega arith)

pub record Taken (text : List ℕ) : Type 0 where
  pub form : form_right text ≡ true
  pub few : length (customers_of text) ≤ most_rows
  pub some : 1 ≤ length (customers_of text)
  pub range : T (customers_range (customers_of text))
  pub capacity : T (capacity_range (capacity_of text))

some_row : (text : List ℕ) (ls : List (List ℕ)) → number_lines text ≡ ls → is_instance ls ≡ true → 1 ≤ length (customers_of text)
unfolding customers_of
some_row text [] e h = absurd (false≢true h)
some_row text (v ∷ []) e h = absurd (false≢true h)
some_row text (v ∷ row ∷ rows) e h = rw e (omega arith)

pub taken : (text : List ℕ) → text_refusal text ≡ 0 → Taken text
unfolding text_refusal form_right
taken text h =
    let F = form_right text in
    let N = leb (length (customers_of text)) most_rows in
    let R = customers_range (customers_of text) in
    let C = capacity_range (capacity_of text) in
    let h1 = unless_next F 10 (unless N 12 (unless R 5 (unless C 7 0))) h in
    let h2 = unless_next N 11 (unless R 5 (unless C 7 0)) h1 in
    let h3 = unless_next R 4 (unless C 7 0) h2 in
    let f = unless_passed F 10 (unless N 12 (unless R 5 (unless C 7 0))) h in
    record {
      form = f;
      few = leb-true (length (customers_of text)) most_rows (unless_passed N 11 (unless R 5 (unless C 7 0)) h1);
      some = some_row text (number_lines text) refl f;
      range = T_from_true R (unless_passed R 4 (unless C 7 0) h2);
      capacity = T_from_true C (unless_passed C 6 0 h3);
    }

-- ---- the refusal of a text and a buffer
-- four tests, and what is told behind them
behind : (a b c d : Bool) (n next : ℕ) → unless a 11 (unless b 12 (unless c 5 (unless d 7 0))) ≡ suc n → unless a 11 (unless b 12 (unless c 5 (unless d 7 next))) ≡ suc n
behind true true true true n next h = absurd (omega arith)
behind true true true false n next h = h
behind true true false d n next h = h
behind true false c d n next h = h
behind false b c d n next h = h

pub refusal_told : (text : List ℕ) (room n : ℕ) → text_refusal text ≡ suc n → import_refusal text room ≡ suc n
unfolding text_refusal import_refusal
refusal_told text room n h =
    behind (form_right text) (leb (length (customers_of text)) most_rows) (customers_range (customers_of text)) (capacity_range (capacity_of text)) n
    (unless (leb (import_length (length (customers_of text))) room) 4 0) h

past : (a b c d : Bool) (next : ℕ) → unless a 11 (unless b 12 (unless c 5 (unless d 7 0))) ≡ 0 → unless a 11 (unless b 12 (unless c 5 (unless d 7 next))) ≡ next
past true true true true next h = refl
past true true true false next h = absurd (omega arith)
past true true false d next h = absurd (omega arith)
past true false c d next h = absurd (omega arith)
past false b c d next h = absurd (omega arith)

by_room : (text : List ℕ) (room : ℕ) → text_refusal text ≡ 0 → import_refusal text room ≡ unless (leb (import_length (length (customers_of text))) room) 4 0
unfolding text_refusal import_refusal
by_room text room h =
    past (form_right text) (leb (length (customers_of text)) most_rows) (customers_range (customers_of text)) (capacity_range (capacity_of text))
    (unless (leb (import_length (length (customers_of text))) room) 4 0) h

pub refusal_short : (text : List ℕ) (room : ℕ) → text_refusal text ≡ 0 → room < import_length (length (customers_of text)) → import_refusal text room ≡ 4
refusal_short text room h l = by_room text room h ∙ ap (λ (b : Bool). unless b 4 0) (lt-leb (import_length (length (customers_of text))) room l)

pub refusal_none : (text : List ℕ) (room : ℕ) → text_refusal text ≡ 0 → import_length (length (customers_of text)) ≤ room → import_refusal text room ≡ 0
refusal_none text room h l = by_room text room h ∙ ap (λ (b : Bool). unless b 4 0) (le-leb (import_length (length (customers_of text))) room l)
