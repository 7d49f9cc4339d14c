-- A listing is shorter than 8 KiB: a header line has at most 25 bytes, a round line 90, a stop line 72. Assumes nothing.
use Rattle.std.specs.Prelude.{◌≡◌, ℕ, zero, suc, ◌+◌, ◌*◌, ◌≤◌, ◌<◌, ◌^◌, length, get_or}
use native.Mathlib.Omega.{arith}
use mathlib.Core.List.{List, [], ◌∷◌}
use Rattle.std.proofs.Math.ListN.{length-append}
use Rattle.lists.specs.Once.{Stops}
use Rattle.lists.specs.Laws.Once.{stops_split}
use Rattle.wire.specs.Bytes.{u16_at, u32_at}
use Rattle.wire.specs.Laws.Bytes.{le_lt}
use Rattle.sheet.specs.Fields.{rows_of}
use Rattle.constructive.specs.Outcome.{Round, chains}
use Rattle.plan.specs.Plan.{round_record_at, row_record_at}
use Rattle.plan.specs.Read.{rounds_at, aside_at, id_at, first_stop_at, next_at, chain_of, rounds_from, read_plan}
use Rattle.listing_text.specs.Text.{text, concatenated}
use Rattle.listing_text.specs.Listing.{field, word, figures_text, header_line, round_line, stop_line, stop_lines, round_text, round_texts, listing_of, refused_text}
use Rattle.listing_text.specs.Laws.Listing.{decimal_short, hex_long}
use Rattle.listing_text.specs.Listable.{Listable}
use Rattle.listing_text.specs.Laws.Listable.{few_rounds, stops, aside_stops, few_stops}

field_short : (k : ℕ) (name : List ℕ) (n : ℕ) → n < 10 ^ suc k → length (field name n) ≤ length name + suc k
unfolding field
field_short k name n h = let l = decimal_short k n h in simp length-append (omega arith)

word_long : (bits : ℕ) → length (word bits) ≡ 17
unfolding word
word_long bits = simp (length-append, hex_long)

pub refused_short : (number : ℕ) → number < 10 ^ 10 → length (refused_text number) ≤ 19
unfolding refused_text
refused_short number h = let l = field_short 9 (text "refused ") number h in simp length-append (omega arith)

figures_long : (plan : List ℕ) (at : ℕ) → length (figures_text plan at) ≡ 35
unfolding figures_text
figures_long plan at = simp (length-append, word_long)

module _ (plan : List ℕ) (small : (i : ℕ) → get_or plan i 0 < 256) where
  u16_short : (name : List ℕ) (at : ℕ) → length (field name (u16_at plan at)) ≤ length name + 5
  u16_short name at = field_short 4 name (u16_at plan at) (let l = le_lt 2 plan at small in omega arith)

  u32_short : (name : List ℕ) (at : ℕ) → length (field name (u32_at plan at)) ≤ length name + 10
  u32_short name at = field_short 9 name (u32_at plan at) (let l = le_lt 4 plan at small in omega arith)

  header_short : length (header_line plan) ≤ 25
  unfolding header_line rounds_at aside_at
  header_short =
      let a = u16_short (text "rounds ") 0 in
      let b = u16_short (text " aside ") 2 in
      simp length-append (omega arith)

  round_short : (k : ℕ) → length (round_line plan k) ≤ 90
  unfolding round_line id_at first_stop_at
  round_short k =
      let a = u32_short (text "round ") (round_record_at k) in
      let b = u16_short (text " first ") (round_record_at k + 8) in
      let c = u32_short (text " load ") (round_record_at k + 4) in
      let d = u16_short (text " rest ") (round_record_at k + 10) in
      let e = figures_long plan (round_record_at k + 16) in
      simp length-append (omega arith)

  stop_short : (n row : ℕ) → row < 10 ^ 5 → length (stop_line plan n row) ≤ 72
  unfolding stop_line next_at
  stop_short n row h =
      let a = field_short 4 (text "stop ") row h in
      let b = u16_short (text " next ") (row_record_at n row) in
      let c = u32_short (text " load ") (row_record_at n row + 4) in
      let d = figures_long plan (row_record_at n row + 8) in
      simp length-append (omega arith)

  module _ (n : ℕ) (most : n ≤ 48) where
    stops_short : (rows : List ℕ) → Stops n rows → length (concatenated (stop_lines plan n rows)) ≤ 72 * length rows
    unfolding stop_lines
    stops_short [] o = omega arith
    stops_short (row ∷ rows) o =
        let h = o.0.1 in
        let a = stop_short n row (omega arith) in
        let b = stops_short rows o.1 in
        simp length-append (omega arith)

    -- the rounds, with the stops that are chained after them
    rounds_short : (k : ℕ) (rs : List Round) (off : List ℕ) → Stops n (chains rs off) → length (concatenated (round_texts plan n k rs)) + 72 * length off ≤ 90 * length rs + 72 * length (chains rs off)
    unfolding round_texts round_text chains
    rounds_short k [] off o = omega arith
    rounds_short k (r ∷ rs) off o =
        let p = stops_split n r.stops (chains rs off) o in
        let a = round_short k in
        let b = stops_short r.stops p.0 in
        let c = rounds_short (k + 1) rs off p.1 in
        simp length-append (omega arith)

rounds_long : (s plan : List ℕ) (n k : ℕ) → length (rounds_from s plan n k) ≡ n
unfolding rounds_from
rounds_long s plan zero k = omega arith
rounds_long s plan (suc n) k = let e = rounds_long s plan n (k + 1) in omega arith

-- of the 8,192 bytes
pub listing_short : (s plan : List ℕ) → Listable s plan → ((i : ℕ) → get_or plan i 0 < 256) → length (listing_of s plan) ≤ 8192
unfolding listing_of read_plan
listing_short s plan ok small =
    let n = rows_of s in
    let rs = rounds_from s plan (rounds_at plan) 0 in
    let off = chain_of s plan (aside_at plan) in
    let all = stops s plan ok in
    let a = header_short plan small in
    let b = rounds_short plan small n ok.rows 0 rs off all in
    let c = stops_short plan small n ok.rows off (aside_stops s plan ok) in
    let d = rounds_long s plan (rounds_at plan) 0 in
    let e = few_rounds s plan ok in
    let f = few_stops s plan ok in
    let g = ok.rows in
    simp length-append (omega arith)
