-- A reader as an iterator.
use Rattle.std.specs.Prelude.{◌≡◌, Option}
use Rattle.std.specs.Result.{result_ok}
use Rattle.records.specs.Records.{front}
use Rattle.records.specs.Handed.{offered, rest_of, next_place, found}
use Rattle.records.specs.declared.front.Placed.{Placed}
use Rattle.records.specs.declared.reader.Reader.{Reader}

-- what stands where a reader is, as a record or nothing, and the reader behind it
pub record Hands (old : Reader) (item : Option Placed) (new : Reader) : Type 0 where
  pub value : found item ≡ result_ok (offered old.place (front old.rest.now))
  pub rest : new.rest.now ≡ rest_of old.rest.now (front old.rest.now)
  pub place : new.place ≡ next_place old.place (front old.rest.now)
