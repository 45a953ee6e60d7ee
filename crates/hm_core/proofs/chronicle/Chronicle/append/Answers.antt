-- What an object holds after an entry is told from what it held.
use Rattle.std.proofs.Common.{sym, ap, ◌∙◌}
use Rattle.std.specs.Prelude.{option_copied}
use Rattle.hm_core.proofs.ChronicleFacts.{store_effect, store_if_effect}
use Rattle.hm_core.proofs.chronicle.Chronicle.append.Goals as goal

pub change-requires-clause-effect : goal.change-requires-clause-effect
change-requires-clause-effect c =
    let held = sym c.contents.ensures ∙ ap option_copied c.unwrap.ensures in
    store_effect _ _ _ _ _ c.unwrap.result.now _ c.in-Store.is held c.with_field-now.ensures

pub change-requires-in-StoreIf-default-default-default-default-default-Stored-clause-effect :
    goal.change-requires-in-StoreIf-default-default-default-default-default-Stored-clause-effect
change-requires-in-StoreIf-default-default-default-default-default-Stored-clause-effect c =
    let d = c.in-StoreIf-default-default-default-default-default-Stored in
    let u = c.unwrap-in-StoreIf-default-default-default-default-default-Stored in
    let held = sym c.contents-in-StoreIf-default-default-default-default-default-Stored.ensures
    ∙ ap option_copied u.ensures in
    store_if_effect _ _ _ _ _ _ _ _ u.result.now _ d.is (rw d.is at d.answer-is) held
    c.with_all-now.ensures
