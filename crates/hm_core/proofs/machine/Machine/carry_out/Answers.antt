-- The seat that is met is there, and another one.
use Rattle.std.proofs.Common.{◌<◌, ℕ, length, sym, ◌∙◌, subst, arith}
use Rattle.hm_core.specs.declared.step.StepRefused.TheVariants as refused
use Rattle.hm_core.proofs.Leading.{step_meets}
use Rattle.hm_core.proofs.machine.Machine.carry_out.Goals as goal

pub split-requires : goal.split-requires
split-requires c = record { awake = (c.requires.admitted refused.Caller (omega arith)).0 }

pub seat_of-seat-requires : goal.seat_of-seat-requires
seat_of-seat-requires c =
    (step_meets c.args.self.now c.let_go_of-let_go-in-Meet.ensures.sound c.args.s.now
    c.in-Meet.other c.in-Meet.is c.requires.admitted).1

pub meet-requires : goal.meet-requires
meet-requires c =
    let seat = c.seat_of-seat.ensures in
    let other = step_meets c.args.self.now c.let_go_of-let_go-in-Meet.ensures.sound c.args.s.now
    c.in-Meet.other c.in-Meet.is c.requires.admitted in
    record {
      awake = (c.requires.admitted refused.Caller (omega arith)).0;
      other = λ same. other.0 (sym seat ∙ same);
      there = subst (λ (j : ℕ). j < length c.args.self.now.seats) (sym seat) other.1;
    }
