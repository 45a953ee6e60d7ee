-- A fresh machine is sound.
use Rattle.std.proofs.Common.{◌≡◌, List, [], length, refl, sym, ap, ◌∙◌, subst, arith}
use Rattle.hm_core.proofs.Words.{Entry, AllStand, all_known, many, Moment, IsSound, ChronicleState, creates_of, IsFreshMachine}
use Rattle.hm_model.proofs.Openings.{opening_stands}
use Rattle.hm_core.proofs.FirstVersions.{common_last, opening_created}
use Rattle.hm_core.proofs.FirstMoment.{first_sound, first_fresh, moment_is}
use Rattle.hm_core.proofs.machine.Machine.new.Goals as goal

pub starting_index-requires : goal.starting_index-requires
starting_index-requires c = omega (
  arith,
  ap length (c.as_slice-firsts.ensures.value ∙ c.in_ok-versions.ensures),
  many c.args.start c.in_ok-words.ensures.first.sized,
)

pub starting_chronicle-requires-clause-stand : goal.starting_chronicle-requires-clause-stand
starting_chronicle-requires-clause-stand c =
    let firsts : c.as_slice-firsts.result.now ≡ all_known c.args.start =
    c.as_slice-firsts.ensures.value ∙ c.in_ok-versions.ensures in
    subst (λ (l : List Entry). AllStand [] l)
    (sym (ap creates_of firsts ∙ opening_created c.args.start))
    (opening_stands c.args.start c.in_ok-words.ensures.first.sized)

pub overflow_cast-firsts : goal.overflow_cast-firsts
overflow_cast-firsts c = omega (
  arith,
  ap length (c.as_slice-firsts.ensures.value ∙ c.in_ok-versions.ensures),
  many c.args.start c.in_ok-words.ensures.first.sized,
  c.args.shape.versions_fit,
)

pub starting_hands-requires : goal.starting_hands-requires
starting_hands-requires c = omega (
  arith,
  ap length (c.as_slice-firsts.ensures.value ∙ c.in_ok-versions.ensures),
  many c.args.start c.in_ok-words.ensures.first.sized,
)

pub invariant_of-result : goal.invariant_of-result
invariant_of-result c =
    let is = moment_is c.args.shape c.args.start c.as_slice-firsts.result.now _ _ _ _ _ _ _ _ _
    (c.as_slice-firsts.ensures.value ∙ c.in_ok-versions.ensures) c.in_ok-known.ensures
    (ap (λ (z : ChronicleState). z.entries) c.in_ok-chronicle.ensures) refl c.in_ok-rows.ensures
    (common_last c.args.start c.as_slice-firsts.result.now _
    (c.as_slice-firsts.ensures.value ∙ c.in_ok-versions.ensures)) c.in_ok-hands.ensures
    c.in_ok-seats.ensures c.count.ensures in
    record {
      sound = subst (λ (m : Moment). IsSound m) (sym is)
          (first_sound c.args.shape c.args.start _ c.in_ok-words.ensures.first c.requires);
      makers = ap (λ (z : ChronicleState). z.makers) c.in_ok-chronicle.ensures;
    }

pub returns-clause-fresh : goal.returns-clause-fresh
returns-clause-fresh c =
    let is = moment_is c.args.shape c.args.start c.as_slice-firsts.result.now _ _ _ _ _ _ _ _ _
    (c.as_slice-firsts.ensures.value ∙ c.in_ok-versions.ensures) c.in_ok-known.ensures
    (ap (λ (z : ChronicleState). z.entries) c.in_ok-chronicle.ensures) refl c.in_ok-rows.ensures
    (common_last c.args.start c.as_slice-firsts.result.now _
    (c.as_slice-firsts.ensures.value ∙ c.in_ok-versions.ensures)) c.in_ok-hands.ensures
    c.in_ok-seats.ensures c.count.ensures in
    subst IsFreshMachine (sym is) record {
      core = first_fresh c.args.shape c.args.start _ c.in_ok-words.ensures.first c.requires;
      seats = refl;
    }
