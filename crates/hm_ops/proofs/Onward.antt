-- Steps of a call that go on from where others see its pass as they saw it before.
use Rattle.std.proofs.Common.{◌≡◌, ◌<◌, ◌-◌, ℕ, Option, Some, None, ap, ◌∙◌, subst}
use Rattle.hm_shape.specs.declared.version.Version.{Version}
use Rattle.hm_model.specs.declared.entry.Entry.{Entry}
use Rattle.hm_model.specs.declared.root.Root.{Root}
use Rattle.hm_model.specs.Store.{PlainStore}
use Rattle.hm_model.specs.Sight.{Sight, Continues, Enters, IsUntended}
use Rattle.hm_model.proofs.SightFacts.{continues_enters}
use Rattle.hm_moves.specs.declared.part.Known.{Known}
use Rattle.hm_moves.specs.Places.{rank_limit}
use Rattle.hm_cells.specs.Facts.{Facts, Made, known_at, most_cycles, sight_of}
use Rattle.hm_ops.specs.Walking.{GoesOn, ahead}
use Rattle.hm_ops.specs.Storing.{Ends, Steps}

module _ {U : Type 0} (lawful : U → PlainStore → Type 0) (allowed : U → PlainStore → Entry → Type 0)
    (m : Made U) (s p t : Facts U) (same : sight_of p ≡ sight_of s) where
  -- a call that ends there ends from before
  pub ends_from : (e d : Entry) (taken : ℕ) → d ≡ e
      → Ends lawful allowed m p d taken t → Ends lawful allowed m s e taken t
  ends_from e d taken is ends = record {
    entry = subst (λ (c : Sight U). Enters lawful allowed c (sight_of t) e) same
        (subst (Enters lawful allowed (sight_of p) (sight_of t)) is ends.entry);
    untended = subst (λ (c : Sight U). IsUntended c (sight_of t)) same ends.untended;
    names = ends.names ∙ ap (λ (c : Sight U). c.roots) same;
    room = ends.room ∙ ap (λ (c : Sight U). c.room) same;
    keeps = ends.keeps;
  }

  -- and whatever it made, its caller goes on
  pub ends_continue : (e : Entry) (taken : ℕ) → Ends lawful allowed m p e taken t
      → Continues lawful allowed (sight_of s) (sight_of t)
  ends_continue e taken ends = subst (λ (c : Sight U). Continues lawful allowed c (sight_of t)) same
      (continues_enters lawful allowed (sight_of p) (sight_of t) e ends.entry ends.untended)

  module _ (at : Root) (v : Version) (known : known_at p v ≡ known_at s v) where
    -- one that goes on from there goes on from before
    pub goes_from : (next : Version) → GoesOn lawful allowed m p at v next t
        → GoesOn lawful allowed m s at v next t
    goes_from next goes = record {
      come = record {
        same = goes.come.same ∙ same;
        place = goes.come.place;
        keeps = goes.come.keeps;
      };
      nearer = subst (λ (k : Known). ahead m t next < rank_limit m.site.shape most_cycles - k.rank)
          known goes.nearer;
    }

    -- so does each step
    pub steps_from : (e d : Entry) (taken : ℕ) (next : Option Version) → d ≡ e
        → Steps lawful allowed m p at v d taken next t → Steps lawful allowed m s at v e taken next t
    steps_from e d taken None is ends = ends_from e d taken is ends
    steps_from e d taken (Some next) is goes = goes_from next goes
