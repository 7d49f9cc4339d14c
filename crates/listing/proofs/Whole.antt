-- What is printed of the part of an input that is read is what is printed of the whole.
use Rattle.std.proofs.Common.{◌≡◌, ℕ, ◌<◌, ◌≤◌, Bool, true, false, List, Option, [], ◌++◌, length, take, append-nil, ltb, ltb-true, ltb-false, length-append, None, Some, IfSome, refl, sym, ap, ◌∙◌, subst, arith}
use Rattle.std.proofs.Math.Seq.{take-append_seam}
use Rattle.std.specs.Io.KnownBytes.{Consumes, IsAtEnd}
use Rattle.listing.specs.Answer.{listing_room, listed_text}
use Rattle.listing.specs.Laws.Answer.{listed_cut}

-- the part is the whole, or it fills the room
same_text : (part rest : List ℕ) → length part ≤ listing_room → (length part < listing_room → rest ≡ []) → listed_text part ≡ listed_text (part ++ rest)
same_text part rest fits ended = go (ltb (length part) listing_room) refl
  where
    go : (b : Bool) → ltb (length part) listing_room ≡ b → listed_text part ≡ listed_text (part ++ rest)
    go true t = ap listed_text (sym (append-nil part) ∙ ap (λ (xs : List ℕ). part ++ xs) (sym (ended (ltb-true (length part) listing_room t))))
    go false t =
        let full : listing_room ≡ length part = omega (arith, ltb-false (length part) listing_room t) in
        let front : take listing_room (part ++ rest) ≡ part = rw (full, take-append_seam part rest) in
        ap listed_text (sym front) ∙ listed_cut (part ++ rest) (omega (arith, full, length-append part rest))

pub printed_whole : (P : List ℕ → Type 0) (old new : Option (List ℕ)) (part : List ℕ) → length part ≤ listing_room → Consumes old new part → (length part < listing_room → IsAtEnd new)
    → P (listed_text part) → IfSome old (λ sheet. P (listed_text sheet))
printed_whole P None new part fits consumed ended p = tt
printed_whole P (Some sheet) None part fits consumed ended p = absurd consumed
printed_whole P (Some sheet) (Some rest) part fits consumed ended p =
    subst P (same_text part rest fits ended ∙ ap listed_text (sym consumed)) p
