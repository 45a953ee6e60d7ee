-- Entries of one kind, counted one by one.
use Rattle.std.proofs.Common.{◌≡◌, ℕ, ◌+◌, IsSome, List, [], ◌∷◌, ◌++◌, sym, ap, ◌∙◌, subst, append_assoc}
use Rattle.std.proofs.lemmas.List.{length_push}
use Rattle.std.proofs.lemmas.List.Elements.{All-push}
use Rattle.hm_model.specs.declared.entry.Entry.{Entry}
use Rattle.hm_model.specs.declared.entry.Entry.TheVariants as entry
use Rattle.hm_model.specs.declared.object.Field.{Field}
use Rattle.hm_model.specs.declared.root.Root.{Root}
use Rattle.hm_model.specs.declared.root.Snapshot.{Snapshot}
use Rattle.hm_model.specs.Store.{Numbers, PlainStore}
use Rattle.hm_model.specs.Sight.{Sight, Places, IsSet, name_at, names_of}
use Rattle.hm_model.specs.Calls.{Creates, FetchesAll, Stores}
use Rattle.hm_bench.specs.declared.call.Call.{Call}
use Rattle.hm_bench.specs.declared.call.Call.TheVariants as call
use Rattle.hm_bench.specs.Runs.{IsOf, Makes}

module _ {U : Type 0} where
  -- a further entry of the kind
  pub makes_more : (call : Call) (n : ℕ) (c d later : Sight U) (e : Entry) → Makes call n c d → IsOf call e
      → later.mine ≡ d.mine ++ e ∷ [] → Makes call (n + 1) c later
  makes_more call n c d later e before of mine = record {
    own = before.own ++ e ∷ [];
    mine = mine ∙ ap (λ (es : List Entry). es ++ e ∷ []) before.mine
        ∙ append_assoc c.mine before.own (e ∷ []);
    count = length_push before.own e ∙ ap (λ (k : ℕ). k + 1) before.count;
    kind = All-push (IsOf call) before.own e before.kind of;
  }

  -- a place that names what it named is set still
  pub stays_set : (c d : Sight U) (r : Root) → name_at d.roots r.0 ≡ name_at c.roots r.0 → IsSet c r
      → IsSet d r
  stays_set c d r same set = (set.0, subst (λ n. IsSome n) (sym same) set.1)

  module _ {lawful : U → PlainStore → Type 0} {allowed : U → PlainStore → Entry → Type 0} where
    -- a further create
    pub created_more : {n : ℕ} {c d later : Sight U} {into : Root} {refs : Places} {numbers : Numbers}
        → Makes call.Create n c d → Creates lawful allowed d later into refs numbers
        → Makes call.Create (n + 1) c later
    created_more {n} {c} {d} {later} {into} {refs} {numbers} before h =
        makes_more call.Create n c d later (entry.Create d.number h.name (names_of d refs) numbers) before
        tt h.entry.mine

    -- a further fetch
    pub fetched_more : {n : ℕ} {c d later : Sight U} {from hand : Root} {result : Snapshot}
        → Makes call.Fetch n c d → FetchesAll lawful allowed d later from hand result
        → Makes call.Fetch (n + 1) c later
    fetched_more {n} {c} {d} {later} before h =
        makes_more call.Fetch n c d later (entry.Fetch d.number h.fetch.name h.answer) before tt
        h.fetch.entry.mine

    -- a further store
    pub stored_more : {n : ℕ} {c d later : Sight U} {at : Root} {field : Field}
        → Makes call.Store n c d → Stores lawful allowed d later at field
        → Makes call.Store (n + 1) c later
    stored_more {n} {c} {d} {later} {at} {field} before h =
        makes_more call.Store n c d later (entry.Store d.number h.name field) before tt h.entry.mine
