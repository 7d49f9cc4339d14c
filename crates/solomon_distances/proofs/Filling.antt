-- The table's entries in ascending order: each is one write more behind those before it, and those are read back. Assumes nothing.
use mathlib.Core.Path.{◌≡◌, refl, sym, ap, ◌∙◌, subst}
use Prim.Native.Nat.{ℕ, ◌+◌, ◌*◌, ◌/◌, ◌%◌, ◌≤◌, ◌<◌}
use native.Mathlib.Nat.{mod-lt, div-add-mod', div-lt_iff_lt-mul}
use native.Mathlib.Decide.{dec_lt}
use native.Mathlib.Omega.{arith}
use mathlib.Core.List.{List, [], ◌∷◌, ◌++◌}
use lib.Dec.{T}
use lib.Arith.{digits_div, digits_mod, digits_lt}
use lib.ListN.{length, get_or, length-append, get_or-append}
use lib.Seq.{get_or_at}
use lib.Ieee.{Float, binary64, to_bits}
use lib.Ieee.Positive.{first_pos}
use Rattle.wire.specs.Bytes.{write, f64_at, is_number}
use Rattle.wire.specs.Laws.Bytes.{length_bytes, length_write, write_write}
use Rattle.wire.specs.Laws.Overwrite.{write_same}
use Rattle.numbers.specs.Range.{whole}
use Rattle.sheet_writer.specs.Sheet.{float_bytes, records_bytes}
use Rattle.square_root.specs.ClosestRoot.{ClosestRoot}
use Rattle.solomon_distances.specs.Distances.{squared_between, DistancesRoom, DistancesWritten}
use Rattle.solomon_distances.specs.Filled.{FilledTo}
use Rattle.solomon_distances.specs.Laws.Between.{between_symmetric, between_kept, room_kept}
use Rattle.solomon_distances.proofs.Floats.{floats_bytes, length_floats, floats_more, float_back, root_read}

-- ---- what stands there already
pub entry_inside : (s : List ℕ) (n at : ℕ) → DistancesRoom s n at → (i j : ℕ) → i < n → j < n → at + 8 * (i * n + j) + 8 ≤ length s
entry_inside s n at r i j p q = omega (arith, r.room, digits_lt p q)

module _ (s : List ℕ) (n at i j : ℕ) (p : i < n) (q : j < n) (l : j < i) (f : FilledTo s n at (i * n + j)) where
  earlier : j * n + i < i * n + j
  earlier = let d : j * n + i < i * n = digits_lt l p in omega arith

  mirrored : ClosestRoot (squared_between s j i) (f64_at s (at + 8 * (j * n + i)))
  mirrored = f.entries j i q p earlier

  pub mirror_number : T (is_number s (at + 8 * (j * n + i)))
  mirror_number = root_read (squared_between s j i) s (at + 8 * (j * n + i)) mirrored

  pub mirror_root : ClosestRoot (squared_between s i j) (f64_at s (at + 8 * (j * n + i)))
  mirror_root = subst (λ (d : ℕ). ClosestRoot d (f64_at s (at + 8 * (j * n + i)))) (between_symmetric s j i) mirrored

-- ---- the loop: t is the sheet s with the first k entries written
pub record Filling (s : List ℕ) (n at : ℕ) (t : List ℕ) (k : ℕ) : Type 0 where
  pub asked : DistancesRoom s n at
  pub within : k ≤ n * n
  pub distances : List Float
  pub long : length distances ≡ k
  pub closest : (i j : ℕ) → i < n → j < n → i * n + j < k → ClosestRoot (squared_between s i j) (get_or distances (i * n + j) (whole 0))
  pub bytes : t ≡ write s at (floats_bytes distances)

module _ (s : List ℕ) (n at : ℕ) where
  pub filling_begins : DistancesRoom s n at → Filling s n at s 0
  unfolding records_bytes
  filling_begins r =
      record {
        asked = r;
        within = omega arith;
        distances = [];
        long = refl;
        closest = λ i j p q l. absurd (omega arith);
        bytes = sym (write_same s at 0 (omega (arith, r.room)));
      }

  module _ (t : List ℕ) (k : ℕ) (g : Filling s n at t k) where
    abbrev before : List ℕ
    before = floats_bytes g.distances

    long_before : length before ≡ 8 * k
    long_before = length_floats g.distances ∙ ap (◌*◌ 8) g.long

    room : at + length before ≤ length s
    room = omega (arith, g.asked.room, g.within, long_before)

    pub filling_length : length t ≡ length s
    filling_length = ap length g.bytes ∙ length_write s at before room

    same_between : (i j : ℕ) → i < n → j < n → squared_between t i j ≡ squared_between s i j
    same_between i j p q = ap (λ (l : List ℕ). squared_between l i j) g.bytes ∙ between_kept s n at g.asked before room i j p q

    pub filled_so_far : FilledTo t n at k
    filled_so_far =
        record {
          asked = subst (λ (l : List ℕ). DistancesRoom l n at) (sym g.bytes) (room_kept s n at g.asked before room);
          entries = λ i j p q l.
              let r = g.closest i j p q l in
              let back : f64_at (write s at before) (at + 8 * (i * n + j)) ≡ get_or g.distances (i * n + j) (whole 0) =
              float_back s at g.distances (whole 0) (i * n + j) (omega (arith, room, long_before, g.long)) (omega (arith, g.long)) r.number in
              subst (ClosestRoot (squared_between t i j)) (sym (ap (λ (l : List ℕ). f64_at l (at + 8 * (i * n + j))) g.bytes ∙ back))
              (subst (λ (d : ℕ). ClosestRoot d (get_or g.distances (i * n + j) (whole 0))) (sym (same_between i j p q)) r);
        }

    pub filling_ends : n * n ≤ k → DistancesWritten s n at t
    filling_ends h =
        record {
          distances = g.distances;
          long = omega (arith, g.long, g.within);
          closest = λ i j p q. g.closest i j p q (omega (arith, digits_lt p q));
          bytes = g.bytes;
        }

    module _ (h : k < n * n) where
      pub some_rows : 0 < n
      some_rows = first_pos n n (omega (arith, h))

      pub its_row : k / n < n
      its_row = (div-lt_iff_lt-mul some_rows).1 h

      pub its_column : k % n < n
      its_column = mod-lt k some_rows

      pub its_place : k / n * n + k % n ≡ k
      its_place = div-add-mod' k n

      pub its_room : at + 8 * k + 8 ≤ length t
      its_room = omega (arith, g.asked.room, filling_length)

      module _ (v : Float) (r : ClosestRoot (squared_between t (k / n) (k % n)) v) where
        root : (i j : ℕ) → j < n → i * n + j ≡ k → ClosestRoot (squared_between s i j) v
        root i j q e =
            let c : k / n ≡ i = ap (λ (m : ℕ). m / n) (sym e) ∙ digits_div i q in
            let d : k % n ≡ j = ap (λ (m : ℕ). m % n) (sym e) ∙ digits_mod i q in
            subst (λ (m : ℕ). ClosestRoot m v) (same_between (k / n) (k % n) its_row its_column ∙ (λ x. squared_between s (c x) (d x))) r

        closest_more : (i j : ℕ) → i < n → j < n → i * n + j < k + 1 → ClosestRoot (squared_between s i j) (get_or (g.distances ++ v ∷ []) (i * n + j) (whole 0))
        closest_more i j p q l = go (dec_lt (i * n + j) k)
          where
            go : Dec (i * n + j < k) → ClosestRoot (squared_between s i j) (get_or (g.distances ++ v ∷ []) (i * n + j) (whole 0))
            go (yes y) = rw (get_or-append g.distances (v ∷ []) (whole 0) (i * n + j) (omega (arith, g.long))) (g.closest i j p q y)
            go (no z) =
                let e : i * n + j ≡ k = omega arith in
                rw (get_or_at g.distances v [] (whole 0) (i * n + j) (g.long ∙ sym e)) (root i j q e)

        pub fills : (u : List ℕ) → u ≡ write t (at + 8 * k) (float_bytes v) → Filling s n at u (k + 1)
        fills u e =
            record {
              asked = g.asked;
              within = omega arith;
              distances = g.distances ++ v ∷ [];
              long = length-append g.distances (v ∷ []) ∙ ap (λ (m : ℕ). m + 1) g.long;
              closest = closest_more;
              bytes =
                  e
                  ∙ (λ x. write (g.bytes x) (at + sym long_before x) (float_bytes v))
                  ∙ write_write s at before room (float_bytes v) (omega (arith, g.asked.room, long_before, length_bytes 8 (to_bits binary64 v)))
                  ∙ ap (write s at) (sym (floats_more g.distances v));
            }
