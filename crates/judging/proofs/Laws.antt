-- The laws of the terms and ranges of a sheet.
use Rattle.std.proofs.Common.{◌≡◌, ℕ, ◌<◌, Bool, true, ◌&&◌, ltb, length}
use Rattle.sheet.proofs.Types.{valid}
use Rattle.sheet.specs.Content.{Content, Valid, content}
use Rattle.sheet.specs.declared.valid.Sheet.{Sheet}
use Rattle.std.proofs.lemmas.Bool.{and_parts, ltb-true}
use Rattle.judging.specs.Laws.{JudgingLaws}
use Rattle.judging.proofs.Ints.{division}
use Rattle.judging.proofs.Limits.{term_limit}
use Rattle.judging.proofs.Nodes.{known, bounded_depth}
use Rattle.judging.proofs.RangeLaws.{range_laws}
use Rattle.judging.proofs.TermLaws.{term_laws}
use Rattle.judging.proofs.Trees.{term_over, range_over}

pub judging_laws : (s : Content) → Valid s → JudgingLaws s
judging_laws s v =
    let k = known (length s.stations) s.nodes v.few_stations v.nodes_sound in
    let there : (i : ℕ) (sort : Bool) → (ltb i (length s.nodes) && sort) ≡ true → i < length s.nodes = λ i sort e. ltb-true _ _ (and_parts _ sort e).0 in
    record {
      terms = λ i e. term_laws _ _ (term_over _ _ k i (there i _ e));
      ranges = λ i e. range_laws _ _ (range_over _ _ k i (there i _ e));
      bounded = λ i e D. term_limit _ _ k D i (there i _ e) (bounded_depth _ _ v.nodes_sound i (there i _ e));
      division = division;
    }

pub sheet_laws : (s : Sheet) → JudgingLaws (content s)
sheet_laws s = judging_laws _ (valid s)
