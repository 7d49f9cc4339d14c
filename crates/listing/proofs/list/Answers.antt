use Rattle.std.proofs.Common.{◌≡◌, ◌<◌, ◌≤◌, ℕ, List, length, take, arith}
use Rattle.std.proofs.lemmas.Result.{IfOk-at_ok}
use Rattle.std.specs.Io.KnownBytes.{Appends, Consumes, IsAtEnd}
use Rattle.listing.proofs.Whole.{printed_whole}
use Rattle.listing.proofs.list.Goals as goal

pub returns : goal.returns
returns g c =
    let room = c.read_full.new.room in
    let n = c.in_ok-n.n in
    let within = IfOk-at_ok (λ n. (n ≤ length room) × (n ≡ length (take n room))) c.in_ok-n.ensures c.read_full.ensures.in_bounds in
    let bytes = IfOk-at_ok (λ n. Consumes (g.R.Read.remaining c.args.input.now) (g.R.Read.remaining c.read_full.new.input) (take n room)) c.in_ok-n.ensures c.read_full.ensures.bytes in
    let ended = IfOk-at_ok (λ n. n < length room → IsAtEnd (g.R.Read.remaining c.read_full.new.input)) c.in_ok-n.ensures c.read_full.ensures.end in
    printed_whole (λ (text : List ℕ). Appends (g.W.Write.contents c.args.output.now) (g.W.Write.contents c.print_answer.new.output) text)
    (g.R.Read.remaining c.args.input.now) (g.R.Read.remaining c.read_full.new.input) (take n room) (omega (arith, within.0, within.1, c.read_full.auto.room)) bytes (λ few. ended (omega (arith, few, within.1, c.read_full.auto.room))) c.in_ok-print_answer.ensures
