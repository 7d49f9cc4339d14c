-- Parts of the table of stops. Assumes nothing.
use mathlib.Core.Path.{◌≡◌, refl, sym, ap, ◌∙◌}
use Prim.Native.Nat.{ℕ, zero, suc, ◌+◌, ◌-◌, ◌≤◌, ◌<◌}
use native.Mathlib.Omega.{arith}
use mathlib.Core.List.{List, [], ◌∷◌, ◌++◌, append_assoc}
use lib.ListN.{length, get_or, take, drop, length-append, length-drop, take-append-drop}
use lib.Seq.{length-take-le, take-suc, get_or-drop, get_or-take, take-take, take-add, drop_at, drop-append-le}
use Rattle.constructive.proofs.Loading.{load_few}
use Rattle.lists.specs.Laws.Every.{every_of}
use Rattle.wire.specs.Bytes.{write}
use Rattle.sheet.specs.Fields.{rows_of}
use Rattle.sheet.specs.Values.{demand_of}
use Rattle.evaluation.specs.Routed.{Routed}
use Rattle.constructive.specs.Load.{load_of}
use Rattle.constructive.specs.Laws.Load.{load_append}
use Rattle.constructive.specs.Members.{part, Members}
use Rattle.constructive.specs.Laws.TableContents.{part_long, part_at}

pub part_none : (stops : List ℕ) (at : ℕ) → part stops at at ≡ []
part_none stops at = let e : at - at ≡ 0 = omega arith in rw e

module _ (stops : List ℕ) (start end : ℕ) (h : start ≤ end) where
  -- with the stop behind it
  pub part_more : end < length stops → part stops start (end + 1) ≡ part stops start end ++ (get_or stops end 0 ∷ [])
  part_more k =
      let e : end + 1 - start ≡ suc (end - start) = omega arith in
      let a : start + (end - start) ≡ end = omega arith in
      rw e
      (take-suc (drop start stops) (end - start) 0 (omega (arith, length-drop start stops))
      ∙ ap (λ (x : ℕ). part stops start end ++ (x ∷ [])) (get_or-drop start stops (end - start) 0 ∙ ap (λ (n : ℕ). get_or stops n 0) a))

  pub last_row : (s : List ℕ) (depot : ℕ) → end < length stops → Routed s depot (part stops start (end + 1)) → get_or stops end 0 < rows_of s
  last_row s depot k r =
      let a : start + (end - start) ≡ end = omega arith in
      let n : length (part stops start (end + 1)) ≡ end + 1 - start = length-take-le (end + 1 - start) (drop start stops) (omega (arith, length-drop start stops)) in
      let e : get_or (part stops start (end + 1)) (end - start) 0 ≡ get_or stops end 0 = part_at stops start (end + 1) (end - start) (omega arith) ∙ ap (λ (m : ℕ). get_or stops m 0) a in
      let l = r.row (end - start) (omega (arith, n)) in
      omega (arith, e, l)

pub part_one : (stops : List ℕ) (at : ℕ) → at < length stops → part stops at (at + 1) ≡ get_or stops at 0 ∷ []
part_one stops at k = part_more stops at at (omega arith) k ∙ ap (λ (l : List ℕ). l ++ (get_or stops at 0 ∷ [])) (part_none stops at)

-- a part of the members is a round
pub routed_part : (s : List ℕ) (depot : ℕ) (stops : List ℕ) (start total a b : ℕ) → Members s depot stops start total → start ≤ a → a ≤ b → b ≤ total → Routed s depot (part stops a b)
routed_part s depot stops start total a b ok h k l =
    let n = part_long stops a b (omega (arith, ok.within)) in
    let m = part_long stops start total ok.within in
    record {
      sheet = ok.routed.sheet;
      home = ok.routed.home;
      few = omega (arith, ok.most);
      row = λ i u.
          let e : start + (a - start + i) ≡ a + i = omega arith in
          let f : get_or (part stops start total) (a - start + i) 0 ≡ get_or (part stops a b) i 0 =
          part_at stops start total (a - start + i) (omega (arith, n)) ∙ ap (λ (j : ℕ). get_or stops j 0) e ∙ sym (part_at stops a b i (omega (arith, n))) in
          let r = ok.routed.row (a - start + i) (omega (arith, n, m)) in
          omega (arith, f, r);
    }

-- what a round asks of a vehicle, with the stop behind it
pub carried : (s : List ℕ) (depot : ℕ) (stops : List ℕ) (start end : ℕ) → start ≤ end → end < length stops → Routed s depot (part stops start (end + 1)) → load_of s (part stops start end) + demand_of s (get_or stops end 0) ≤ 101000000
unfolding load_of
carried s depot stops start end h k r =
    let u = load_few s r.sheet (part stops start (end + 1)) (every_of (λ (i : ℕ). i < rows_of s) 0 (part stops start (end + 1)) r.row) in
    let e = ap (load_of s) (part_more stops start end h k) ∙ load_append s (part stops start end) (get_or stops end 0 ∷ []) in
    omega (arith, u, e, r.few)

-- a part of the table that is not empty
pub part_some : (stops : List ℕ) (start end : ℕ) → start ≤ end → end ≤ length stops → (start ≡ end → ⊥) → 0 < length (part stops start end)
part_some stops start end h k n = go (end - start) refl
  where
    go : (m : ℕ) → end - start ≡ m → 0 < length (part stops start end)
    go zero e = absurd (n (omega arith))
    go (suc m) e = omega (arith, part_long stops start end k)

-- a front written in comes back as the whole
pub write_front : (s : List ℕ) (n at : ℕ) (xs : List ℕ) → at + length xs ≤ n → n ≤ length s → write (take n s) at xs ++ drop n s ≡ write s at xs
unfolding write
write_front s n at xs h k =
    let m = at + length xs in
    let l : length (take n s) ≡ n = length-take-le n s k in
    let rest : drop m (take n s) ++ drop n s ≡ drop m s = sym (drop-append-le m (take n s) (drop n s) (omega arith)) ∙ ap (drop m) (take-append-drop n s) in
    ap (λ (t : List ℕ). t ++ (xs ++ drop m (take n s)) ++ drop n s) (take-take at n s (omega arith))
    ∙ append_assoc (take at s) (xs ++ drop m (take n s)) (drop n s)
    ∙ ap (◌++◌ (take at s)) (append_assoc xs (drop m (take n s)) (drop n s) ∙ ap (◌++◌ xs) rest)

pub drop_part : (s : List ℕ) (at n : ℕ) → at ≤ n → n ≤ length s → drop at (take n s) ≡ part s at n
drop_part s at n h k =
    let e : n ≡ at + (n - at) = omega arith in
    ap (λ (m : ℕ). drop at (take m s)) e ∙ ap (drop at) (take-add at (n - at) s) ∙ drop_at (take at s) (part s at n) at (length-take-le at s (omega arith))

-- the stop at `at` sent behind those of the front
pub sent_front : (s : List ℕ) (n at : ℕ) → at < n → n ≤ length s → write (take n s) at (drop (at + 1) (take n s) ++ (get_or (take n s) at 0 ∷ [])) ++ drop n s ≡ write s at (part s (at + 1) n ++ (get_or s at 0 ∷ []))
sent_front s n at h k =
    let front = drop_part s (at + 1) n (omega arith) k in
    let x : get_or (take n s) at 0 ≡ get_or s at 0 = get_or-take n s at 0 h in
    let long = part_long s (at + 1) n k in
    ap (λ (l : List ℕ). write (take n s) at (l ++ (get_or (take n s) at 0 ∷ [])) ++ drop n s) front
    ∙ ap (λ (y : ℕ). write (take n s) at (part s (at + 1) n ++ (y ∷ [])) ++ drop n s) x
    ∙ write_front s n at (part s (at + 1) n ++ (get_or s at 0 ∷ [])) (omega (arith, length-append (part s (at + 1) n) (get_or s at 0 ∷ []))) k
