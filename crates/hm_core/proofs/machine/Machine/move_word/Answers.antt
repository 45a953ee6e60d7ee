-- An admitted step that is an act is a lawful move.
use Rattle.std.proofs.Common.{◌≡◌, ◌≢◌, ℕ, Bool, Option, refl, ap, subst, sym, ◌∙◌, arith}
use Rattle.hm_shape.specs.declared.reply.ReplyKind.{ReplyKind}
use Rattle.hm_shape.specs.declared.roles.Roles.{Roles}
use Rattle.hm_core.specs.Stepping.{scan_of}
use Rattle.hm_core.specs.Taking.{answer_of, let_go_of}
use Rattle.hm_core.specs.declared.step.StepKind.TheVariants.{StoreOwn, Publish, Split, Meet, StoreReply, StoreRoles, Shorten}
use Rattle.hm_core.specs.declared.step.StepRefused.TheVariants as refused
use Rattle.hm_core.proofs.Words.{any_store, any_entry, applied, core_of, own_part, own_view, Act, Entry, IsAct, IsLawfulMove, Known, Moment, Step, StepKind, Version}
use Rattle.hm_core.proofs.Leading.{act_there, step_may}
use Rattle.hm_core.proofs.machine.Machine.move_word.Goals as goal

pub act_of-requires-clause-place : goal.act_of-requires-clause-place
act_of-requires-clause-place c = c.requires.admitted refused.Place (omega arith)

pub unreachable-requires : goal.unreachable-requires
unreachable-requires c =
    let m = c.args.self.now in
    let step = c.args.s.now in
    act_there m c.let_go_of-let_go.ensures.sound step c.requires.admitted c.requires.kind
    (sym c.act_of.ensures ∙ c.in_default.is)

pub take-requires-clause-awake : goal.take-requires-clause-awake
take-requires-clause-awake c = (c.requires.admitted refused.Caller (omega arith)).0

pub take-requires-clause-may : goal.take-requires-clause-may
take-requires-clause-may c =
    let m = c.args.self.now in
    subst (λ (b : Bool). IsLawfulMove any_store any_entry (core_of m).heap
    (own_part m c.args.s.now.caller)
    record { act = c.in-Some.act; scan = b; let_go = c.let_go_of-let_go.result })
    (sym c.is_scan.ensures) (step_may m c.let_go_of-let_go.ensures.sound c.args.s.now c.in-Some.act
    c.let_go_of-let_go.result (sym c.act_of.ensures ∙ c.in-Some.is) c.let_go_of-let_go.ensures.known
    c.requires.admitted)

-- a kind that is none of these answers what it found
found_answered : (kind : StepKind) (x : ℕ) → IsAct kind
    → ((i word : ℕ) → kind ≢ StoreOwn i word) → ((entry : Entry) → kind ≢ Publish entry)
    → ((reply : ReplyKind) → kind ≢ StoreReply reply)
    → ((roles : Roles) → kind ≢ StoreRoles roles)
    → ((v : Version) (i : ℕ) (u : Version) → kind ≢ Shorten v i u) → x ≡ answer_of kind x
found_answered (StoreOwn i word) x act a b c d e = absurd (a i word refl)
found_answered (Publish entry) x act a b c d e = absurd (b entry refl)
found_answered Split x act a b c d e = absurd act
found_answered (Meet other) x act a b c d e = absurd act
found_answered (StoreReply kind) x act a b c d e = absurd (c kind refl)
found_answered (StoreRoles roles) x act a b c d e = absurd (d roles refl)
found_answered (Shorten v i u) x act a b c d e = absurd (e v i u refl)
found_answered kind x act a b c d e = refl

-- a move of these parts is that of a step
of_step : (m n : Moment) (step : Step) (a : Act) (scan : Bool) (o : Option Known)
    → scan ≡ scan_of step.kind → o ≡ let_go_of m step.let_go
    → core_of n ≡ applied (core_of m) step.caller 0 (own_view m step.caller)
    (own_part m step.caller) record { act = a; scan = scan; let_go = o }
    → core_of n ≡ applied (core_of m) step.caller 0 (own_view m step.caller)
    (own_part m step.caller)
    record { act = a; scan = scan_of step.kind; let_go = let_go_of m step.let_go }
of_step m n step a scan o s l now =
    let f = applied (core_of m) step.caller 0 (own_view m step.caller) (own_part m step.caller) in
    now ∙ ap (λ (b : Bool). f record { act = a; scan = b; let_go = o }) s
    ∙ ap (λ (g : Option Known). f record { act = a; scan = scan_of step.kind; let_go = g }) l

pub returns-in_default-kind : goal.returns-in_default-kind
returns-in_default-kind c =
    let step = c.args.s.now in
    let none = c.in_default-kind in
    let told = c.in_ok-x.ensures in
    record {
      moved = record {
        act = c.in-Some.act;
        is = sym c.act_of.ensures ∙ c.in-Some.is;
        now = of_step c.args.self.now c.take.new.self step c.in-Some.act c.is_scan.result
            c.let_go_of-let_go.result c.is_scan.ensures c.let_go_of-let_go.ensures.known told.taken;
        answer = told.word ∙ found_answered step.kind _ c.requires.kind none.not-StoreOwn
            none.not-Publish none.not-StoreReply none.not-StoreRoles none.not-Shorten;
      };
      site = told.site;
      unchanged = tt;
    }
