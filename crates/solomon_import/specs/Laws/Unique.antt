-- What the importer answers leaves no choice: number and bytes are one for every text and buffer. Assumes nothing.
use Rattle.std.specs.Prelude.{◌≡◌, ℕ, zero, suc, ◌/◌, ◌%◌, ◌<◌, List, ℤ, length, get_or, Float}
use Rattle.std.proofs.Common.{sym, ap, ◌∙◌, subst, ext_get_or}
use Rattle.wire.specs.Bytes.{write}
use Rattle.numbers.specs.Range.{whole}
use Rattle.square_root.specs.Laws.Closest.{closest_unique}
use Rattle.sheet_writer.specs.Sheet.{sheet_bytes}
use Rattle.solomon_import.specs.Instance.{Customer, customers_of}
use Rattle.solomon_import.specs.Import.{import_refusal, import_fields, squared_distance, customer_at, DistancesOf, ImportBytes, ImportAnswered}
use Rattle.solomon_import.specs.Laws.Imported.{closest_entry}

distances_unique : (cs : List Customer) (a b : List Float) → DistancesOf cs a → DistancesOf cs b → a ≡ b
distances_unique cs a b d e =
    let same : length a ≡ length b = d.long ∙ sym e.long in
    ext_get_or (whole 0) a b same
    (λ k h.
    closest_unique (squared_distance (customer_at cs (k / length cs)) (customer_at cs (k % length cs))) (get_or a k (whole 0)) (get_or b k (whole 0))
    (closest_entry cs a d k h) (closest_entry cs b e k (subst (λ (n : ℕ). k < n) same h)))

bytes_unique : (refusal : ℕ) (text lent out₁ out₂ : List ℕ) → ImportBytes refusal text lent out₁ → ImportBytes refusal text lent out₂ → out₁ ≡ out₂
bytes_unique zero text lent out₁ out₂ a b =
    a.bytes
    ∙ ap (λ (table : List Float). write lent 0 (sheet_bytes (import_fields text table))) (distances_unique (customers_of text) a.distances b.distances a.closest b.closest)
    ∙ sym b.bytes
bytes_unique (suc n) text lent out₁ out₂ a b = a ∙ sym b

pub import_unique : (text lent : List ℕ) (r₁ r₂ : ℤ) (out₁ out₂ : List ℕ) → ImportAnswered text lent r₁ out₁ → ImportAnswered text lent r₂ out₂ → (r₁ ≡ r₂) × (out₁ ≡ out₂)
import_unique text lent r₁ r₂ out₁ out₂ a b = (a.number ∙ sym b.number, bytes_unique (import_refusal text (length lent)) text lent out₁ out₂ a.bytes b.bytes)
