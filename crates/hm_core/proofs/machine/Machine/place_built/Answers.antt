-- The version on whose link another is hung is known, and lies in the Table.
use Rattle.std.proofs.Common.{subst, sym, inr}
use Rattle.hm_core.proofs.Words.{IsThere, store_of, own_part, IsSound, MayBuild, core_of, Version, IsVersionOf}
use Rattle.hm_moves.specs.Allowed.{HoldsClean, IsLaterThan}
use Rattle.hm_moves.specs.declared.moving.Build.{Build}
use Rattle.hm_core.proofs.Moments.{look_index, known_fit, naming_low, next_fits}
use Rattle.hm_core.proofs.machine.Machine.place_built.Goals as goal

pub returns-in-LinkStore-clause-version : goal.returns-in-LinkStore-clause-version
returns-in-LinkStore-clause-version c =
    let m = c.args.self.now in
    let sound : IsSound m = subst IsSound c.self.view_is c.self.invariant.sound in
    let may = subst (λ (b : Build). MayBuild (IsThere (store_of m.history)) (λ e. Unit {0})
    (HoldsClean m.words (own_part m c.args.caller)) (IsLaterThan m.shape (core_of m).heap)
    (own_part m c.args.caller) b) c.in-LinkStore.is c.requires.may in
    let at = c.in-LinkStore.at in
    (known_fit m sound at.version.0 at
    (look_index m sound c.args.caller c.requires.awake at may.look)).version

pub returns-in-Shorten-clause-version : goal.returns-in-Shorten-clause-version
returns-in-Shorten-clause-version c =
    let m = c.args.self.now in
    let sound : IsSound m = subst IsSound c.self.view_is c.self.invariant.sound in
    let may = subst (λ (b : Build). MayBuild (IsThere (store_of m.history)) (λ e. Unit {0})
    (HoldsClean m.words (own_part m c.args.caller)) (IsLaterThan m.shape (core_of m).heap)
    (own_part m c.args.caller) b) c.in-Shorten.is c.requires.may in
    let at = c.in-Shorten.at in
    (known_fit m sound at.version.0 at
    (look_index m sound c.args.caller c.requires.awake at (inr may.own))).version

pub returns-in-Shorten-clause-word : goal.returns-in-Shorten-clause-word
returns-in-Shorten-clause-word c =
    let m = c.args.self.now in
    let may = subst (λ (b : Build). MayBuild (IsThere (store_of m.history)) (λ e. Unit {0})
    (HoldsClean m.words (own_part m c.args.caller)) (IsLaterThan m.shape (core_of m).heap)
    (own_part m c.args.caller) b) c.in-Shorten.is c.requires.may in
    naming_low c.in-Shorten.i may.word

pub returns-in-StoreOwn-clause-version : goal.returns-in-StoreOwn-clause-version
returns-in-StoreOwn-clause-version c =
    let m = c.args.self.now in
    let sound : IsSound m = subst IsSound c.self.view_is c.self.invariant.sound in
    let may = subst (λ (b : Build). MayBuild (IsThere (store_of m.history)) (λ e. Unit {0})
    (HoldsClean m.words (own_part m c.args.caller)) (IsLaterThan m.shape (core_of m).heap)
    (own_part m c.args.caller) b) c.in-StoreOwn.is c.requires.may in
    subst (λ (v : Version). IsVersionOf m.shape v) (sym c.next_version.ensures)
    (next_fits m sound c.args.caller c.requires.awake may.room)
