-- Fields one after another: how long they are together, and that each is read back where it stands. Assumes nothing.
use Rattle.std.specs.Prelude.{◌≡◌, refl, ℕ, zero, suc, ◌+◌, ◌^◌, ◌≤◌, ◌<◌, List, [], ◌∷◌, ◌++◌, length, get_or}
use Rattle.std.proofs.Common.{sym, ap, ◌∙◌, subst, arith, length-append}
use Rattle.wire.specs.Bytes.{le, bytes}
use Rattle.wire.specs.Laws.Bytes.{length_bytes, le_bytes, le_past}
use Rattle.sheet_writer.specs.Laws.Stands.{Stands, stands}

-- fields by their widths in bytes and their values
abbrev pub fields_bytes : List (ℕ × ℕ) → List ℕ
fields_bytes [] = []
fields_bytes (g ∷ []) = bytes g.0 g.1
fields_bytes (g ∷ (h ∷ gs)) = bytes g.0 g.1 ++ fields_bytes (h ∷ gs)

abbrev pub width : List (ℕ × ℕ) → ℕ
width [] = 0
width (g ∷ gs) = g.0 + width gs

abbrev pub field : List (ℕ × ℕ) → ℕ → ℕ × ℕ
field gs k = get_or gs k (0, 0)

abbrev pub offset : List (ℕ × ℕ) → ℕ → ℕ
offset gs zero = 0
offset [] (suc k) = 0
offset (g ∷ gs) (suc k) = g.0 + offset gs k

pub length_fields : (gs : List (ℕ × ℕ)) → length (fields_bytes gs) ≡ width gs
length_fields [] = refl
length_fields (g ∷ []) = omega (arith, length_bytes g.0 g.1)
length_fields (g ∷ (h ∷ gs)) = omega (arith, length-append (bytes g.0 g.1) (fields_bytes (h ∷ gs)), length_bytes g.0 g.1, length_fields (h ∷ gs))

within : (gs : List (ℕ × ℕ)) (k : ℕ) → k < length gs → offset gs k + (field gs k).0 ≤ width gs
within [] k h = absurd (omega arith)
within (g ∷ gs) zero h = omega arith
within (g ∷ gs) (suc k) h = omega (arith, within gs k (omega arith))

field_bytes : (gs : List (ℕ × ℕ)) (k : ℕ) → k < length gs → (field gs k).1 < 256 ^ (field gs k).0 → le (field gs k).0 (fields_bytes gs) (offset gs k) ≡ (field gs k).1
field_bytes [] k h l = absurd (omega arith)
field_bytes (g ∷ []) zero h l = le_bytes g.0 g.1 l
field_bytes (g ∷ []) (suc k) h l = absurd (omega arith)
field_bytes (g ∷ (e ∷ gs)) zero h l =
    (stands [] (bytes g.0 g.1) (fields_bytes (e ∷ gs)) 0 refl).reads g.0 0 (omega (arith, length_bytes g.0 g.1)) ∙ le_bytes g.0 g.1 l
field_bytes (g ∷ (e ∷ gs)) (suc k) h l =
    le_past (field (e ∷ gs) k).0 (offset (e ∷ gs) k) g.0 (bytes g.0 g.1) (fields_bytes (e ∷ gs)) (length_bytes g.0 g.1) ∙ field_bytes (e ∷ gs) k (omega arith) l

-- field k of the fields that stand somewhere
pub field_back : (s : List ℕ) (at : ℕ) (gs : List (ℕ × ℕ)) → Stands s at (fields_bytes gs) → (k : ℕ) → k < length gs → (w v : ℕ) → field gs k ≡ (w, v) → v < 256 ^ w → le w s (at + offset gs k) ≡ v
field_back s at gs st k h w v e l =
    ap (λ (g : ℕ × ℕ). le g.0 s (at + offset gs k)) (sym e)
    ∙ st.reads (field gs k).0 (offset gs k) (omega (arith, within gs k h, length_fields gs))
    ∙ field_bytes gs k h (subst (λ (g : ℕ × ℕ). g.1 < 256 ^ g.0) (sym e) l)
    ∙ ap (λ (g : ℕ × ℕ). g.1) e
