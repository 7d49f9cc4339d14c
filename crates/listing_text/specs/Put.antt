-- A text that is put into a buffer.
use Rattle.std.specs.Prelude.{◌≡◌, ℕ, ◌+◌, ◌≤◌, List, length}
use Rattle.wire.specs.Bytes.{write}
use Rattle.listing_text.specs.declared.text.Text.{Text}

-- the buffer has room for the text from `at` on (a clause: of the buffer, a place in it and the text)
abbrev pub TextRoom : List ℕ → ℕ → List ℕ → Type 0
TextRoom out at xs = at + length xs ≤ length out

-- the buffer before, after, where the text was put, the text, and where it ends
pub record Put (before after : List ℕ) (at : ℕ) (xs : List ℕ) (end : ℕ) : Type 0 where
  pub same : after ≡ write before at xs
  pub long : end ≡ at + length xs
  pub within : end ≤ length after

-- the text's buffer has room for another text behind it
abbrev pub HasRoom : Text → List ℕ → Type 0
HasRoom t xs = TextRoom t.out.now t.end xs

-- the text before and after, and the other that was put behind it, in the same buffer
pub record Appends (old new : Text) (xs : List ℕ) : Type 0 where
  pub same_buffer : new.out.ghost_name ≡ old.out.ghost_name
  pub put : Put old.out.now new.out.now old.end xs new.end
