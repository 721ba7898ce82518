use Rattle.std.proofs.Common.{◌≡◌, ℕ, ◌<◌, Bool, false, eqb, arith, sym, ◌∙◌}
use Rattle.std.proofs.lemmas.Bool.{eqb-true}
use Rattle.std.proofs.lemmas.Bool.Decides.{nat_tests}
use Rattle.std.proofs.lemmas.Result.{err_from_is_err_and}
use Rattle.records.specs.Handed.{piece}
use Rattle.records.proofs.Fronts.{rest_less}
use Rattle.reading.proofs.Onto.{still_starts, still_ends, still_refused, still_added, still_flawed}
use Rattle.reading.proofs.read_in.Goals as goal

not_end : (b : Bool) (n : ℕ) → b ≡ false → b ≡ eqb n 0 → 0 < n
not_end b n h e = grind (arith, nat_tests)

pub loop-reader-init : goal.loop-reader-init
loop-reader-init c = rw (c.new-reader.ensures.rest, c.new-reader.ensures.place, c.args.room.empty) (still_starts c.args.bytes.now)

pub returns-in_err-placed : goal.returns-in_err-placed
returns-in_err-placed c =
    let p = err_from_is_err_and c.from_residual.result c.from_residual.ensures.1 in
    rw (p.1, p.2) (still_refused _ _ _ _ _ (not_end _ _ c.loop-reader-test.true c.is_at_end.ensures) c.loop-reader.invariant c.in_err-placed.ensures.value)

pub loop-reader-smaller : goal.loop-reader-smaller
loop-reader-smaller c = rw c.next_record.ensures.rest (rest_less _ _ _ c.in_ok-placed.ensures.value)

pub loop-reader-preserved : goal.loop-reader-preserved
loop-reader-preserved c =
    rw (c.next_record.ensures.rest, c.next_record.ensures.place)
    (still_added _ _ _ _ (piece c.in_ok-placed.placed) c.loop-reader.invariant _ c.in_ok-placed.ensures.value c.in_ok-add.ensures)

pub returns-in_err-add : goal.returns-in_err-add
returns-in_err-add c =
    let p = err_from_is_err_and c.from_residual-in_err-add.result c.from_residual-in_err-add.ensures.1 in
    rw (p.1, p.2) (still_flawed _ _ _ _ (piece c.in_ok-placed.placed) c.loop-reader.invariant _ c.in_ok-placed.ensures.value c.in_err-add.ensures)

pub returns : goal.returns
returns c =
    rw (still_ends _ _ _ _ c.loop-reader.invariant (eqb-true _ _ (sym c.is_at_end.ensures ∙ c.loop-reader-test.false))) c.finish.ensures
