-- `listing_text::text::Text::put_words` meets its contract. Assumes nothing.
use mathlib.Core.Path.{◌≡◌, refl, ap, ◌∙◌}
use Prim.Native.Nat.{ℕ, ◌+◌, ◌-◌}
use native.Mathlib.Omega.{arith}
use mathlib.Core.List.{List, ◌++◌}
use lib.ListN.{length, take, drop}
use Rattle.std.proofs.Common.{drop-drop}
use borrow.Rule.Slice.PartMut.{put_mid}
use Rattle.wire.specs.Bytes.{write}
use Rattle.wire.specs.Laws.Bytes.{length_write}
use Rattle.listing_text.proofs.text.Text.put_words.Goals as goal

put_write : (s : List ℕ) (at k : ℕ) (xs : List ℕ) → k ≡ length xs → put_mid at k s xs ≡ write s at xs
unfolding write
put_write s at k xs e = ap (λ (ys : List ℕ). take at s ++ (xs ++ ys)) (drop-drop k at s ∙ ap (λ (n : ℕ). drop (at + n) s) e)

pub returns : goal.returns
returns c =
    let t = c.args.self.now in
    let words = c.args.words.now in
    let n : t.end + length words - t.end ≡ length words = omega arith in
    let e : put_mid t.end (t.end + length words - t.end) t.out.now c.copy_from_slice.new.self ≡ write t.out.now t.end words =
    ap (put_mid t.end (t.end + length words - t.end) t.out.now) c.copy_from_slice.ensures.after ∙ put_write t.out.now t.end _ words n in
    record {
      same_buffer = refl;
      put = record { same = e; long = refl; within = omega (arith, ap length e, length_write t.out.now t.end words c.requires) };
    }
