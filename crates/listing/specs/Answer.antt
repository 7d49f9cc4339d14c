-- docs/SCOPE.md#the-listing. Document 01, "Sheet A and its relatives": what the listing program prints.
use Rattle.std.specs.Prelude.{ℕ, zero, suc, List}
use Rattle.sheet.specs.Fields.{plan_length}
use Rattle.sheet.specs.Refusal.{refusal_of}
use Rattle.planner.specs.Answer.{plan_for}
use Rattle.listing_text.specs.Listing.{listing_of, refused_text, listing_refusal}

-- as much of its input as the program reads: one byte more than the longest sheet that it lists
abbrev pub listing_room : ℕ
listing_room = 40337

-- "prints `refused N` or", where nothing is refused, the listing of the sheet's plan
unfoldable pub answer_text : ℕ → List ℕ → List ℕ → List ℕ
answer_text zero s plan = listing_of s plan
answer_text (suc n) s plan = refused_text (suc n)

-- the text of a sheet: its early refusal, the planner's, or the listing of its plan
unfoldable pub listed_text : List ℕ → List ℕ
listed_text s = answer_text (listing_refusal s (refusal_of s (plan_length s))) s (plan_for s)
