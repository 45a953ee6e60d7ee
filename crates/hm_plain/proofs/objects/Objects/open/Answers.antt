use Rattle.std.proofs.Common.{[], ◌∷◌, List, Option, subst, sym, refl, arith}
use Rattle.hm_model.specs.Store.{Numbers}
use Rattle.hm_plain.proofs.OpeningFacts.{AddsSides, opened_count, opened_store, opened_used, opened_room, four_sides}
use Rattle.hm_plain.proofs.objects.Objects.open.Goals as goal

sides : (c : goal.After-add) → AddsSides c.args.self.now c.add_side-4.new.self c.args.start.sides (c.add_side.result ∷ c.add_side-2.result ∷ c.add_side-3.result ∷ c.add_side-4.result ∷ [])
sides c =
    subst (λ (xs : List (Option Numbers)). AddsSides c.args.self.now c.add_side-4.new.self xs (c.add_side.result ∷ c.add_side-2.result ∷ c.add_side-3.result ∷ c.add_side-4.result ∷ []))
    (sym (four_sides c.args.start.sides (omega arith)))
    (c.add_side.new.self, c.add_side.ensures, (c.add_side-2.new.self, c.add_side-2.ensures, (c.add_side-3.new.self, c.add_side-3.ensures, (c.add_side-4.new.self, c.add_side-4.ensures, refl))))

pub returns-clause-count : goal.returns-clause-count
returns-clause-count c = opened_count c.args.start c.args.self.now c.add_side-4.new.self c.add.new.self _ _ c.requires.empty (sides c) c.add.ensures.takes

pub returns-clause-store : goal.returns-clause-store
returns-clause-store c = opened_store c.args.start c.args.self.now c.add_side-4.new.self c.add.new.self _ c.requires.empty (sides c) c.add.ensures.takes

pub returns-clause-used : goal.returns-clause-used
returns-clause-used c = opened_used c.args.start c.args.self.now c.add_side-4.new.self c.add.new.self _ _ (sides c) c.add.ensures.takes

pub returns-clause-room : goal.returns-clause-room
returns-clause-room c = opened_room c.args.start c.args.self.now c.add_side-4.new.self c.add.new.self _ _ (sides c) c.add.ensures.takes
