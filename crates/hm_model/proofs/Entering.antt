-- What stands in the present store after an entry.
use Rattle.std.proofs.Common.{◌≡◌, ◌≢◌, ℕ, ◌+◌, Some, [], ◌∷◌, ◌++◌, refl, sym, ap, ◌∙◌}
use Rattle.std.specs.Option.{option_map}
use Rattle.hm_model.specs.declared.object.Name.{Name}
use Rattle.hm_model.specs.declared.object.Contents.{Contents}
use Rattle.hm_model.specs.declared.object.Field.{Field}
use Rattle.hm_model.specs.declared.entry.Tried.TheVariants.{Stored, Changed}
use Rattle.hm_model.specs.declared.entry.Entry.{Entry}
use Rattle.hm_model.specs.declared.entry.Entry.TheVariants.{Create, Fetch, Store, StoreIf}
use Rattle.hm_model.specs.Store.{Numbers, Refs, PlainStore, contents_of}
use Rattle.hm_model.specs.Effect.{caller_of, effect_of, new_contents, with_field, with_all}
use Rattle.hm_model.specs.History.{store_after, store_of}
use Rattle.hm_model.specs.Lawful.{MayCome, UsageLaws}
use Rattle.hm_model.specs.Sight.{Sight, present, IsSameCaller, Rests, HasHistory, Enters}
use Rattle.hm_model.proofs.StoreFacts.{contents_of-push_new, contents_of-changed}
use Rattle.hm_model.proofs.EffectFacts.{contents_there}
use Rattle.hm_model.proofs.HistoryFacts.{store_after-append, all_come_parts}
use Rattle.hm_model.proofs.SightFacts.{calls_of-own, same_caller_then, has_history_goes, has_history_rests}

module _ {U : Type 0} (lawful : U → PlainStore → Type 0) (allowed : U → PlainStore → Entry → Type 0) where
  -- the store that a caller has seen after its entry
  pub present-enters : (c d : Sight U) (e : Entry) → (h : Enters lawful allowed c d e)
      → present d ≡ effect_of (store_after (present c) h.between) e
  present-enters c d e h =
      ap store_of h.seen ∙ (store_after-append [] c.seen (h.between ++ e ∷ [])
      ∙ store_after-append (present c) h.between (e ∷ []))

  -- a caller that has made one entry, whatever its root places name then
  pub enters_rests : (c d f : Sight U) (e : Entry) → Enters lawful allowed c d e → Rests d f
      → Enters lawful allowed c f e
  enters_rests c d f e h k = record {
    caller = same_caller_then c d f h.caller k.caller;
    own = h.own;
    between = h.between;
    others = h.others;
    seen = k.seen ∙ h.seen;
    mine = k.mine ∙ h.mine;
    come = h.come;
    history = has_history_rests lawful allowed d f k h.history;
  }

  -- the entry of a call may come where it stands
  pub comes_enters : (c d : Sight U) (e : Entry) → (h : Enters lawful allowed c d e)
      → MayCome (lawful c.usage) (allowed c.usage) (store_after (present c) h.between) e
  comes_enters c d e h =
      (all_come_parts (lawful c.usage) (allowed c.usage) (present c) h.between (e ∷ []) h.come).1.0

  -- what a fetch answers is there afterwards
  pub fetched_now : (c d : Sight U) (q : ℕ) (n : Name) (x : Contents)
      → Enters lawful allowed c d (Fetch q n x) → contents_of (present d) n ≡ Some x
  fetched_now c d q n x h =
      ap (λ (s : PlainStore). contents_of s n) (present-enters c d (Fetch q n x) h)
      ∙ (comes_enters c d (Fetch q n x) h).stands

  -- what a create makes is there afterwards
  pub created_now : (c d : Sight U) (q : ℕ) (n : Name) (refs : Refs) (numbers : Numbers)
      → Enters lawful allowed c d (Create q n refs numbers)
      → contents_of (present d) n ≡ Some (new_contents refs numbers)
  created_now c d q n refs numbers h =
      ap (λ (s : PlainStore). contents_of s n) (present-enters c d (Create q n refs numbers) h)
      ∙ contents_of-push_new (store_after (present c) h.between) (n, new_contents refs numbers)
      (comes_enters c d (Create q n refs numbers) h).stands.fresh

  -- what a store makes of what the object held is there afterwards
  pub stored_now : (c d : Sight U) (q : ℕ) (n : Name) (field : Field) (was : Contents)
      → (h : Enters lawful allowed c d (Store q n field))
      → contents_of (store_after (present c) h.between) n ≡ Some was
      → contents_of (present d) n ≡ Some (with_field field was)
  stored_now c d q n field was h before =
      ap (λ (s : PlainStore). contents_of s n) (present-enters c d (Store q n field) h)
      ∙ (contents_of-changed (with_field field) n (store_after (present c) h.between)
      ∙ ap (option_map (with_field field)) before)

  -- an object that a store is made into was there before
  pub stored_before : (c d : Sight U) (q : ℕ) (n : Name) (field : Field)
      → (h : Enters lawful allowed c d (Store q n field))
      → (was : Contents) × (contents_of (store_after (present c) h.between) n ≡ Some was)
  stored_before c d q n field h =
      contents_there (store_after (present c) h.between) n (comes_enters c d (Store q n field) h).stands.there

  -- what a conditional store stored is there afterwards
  pub replaced_now : (c d : Sight U) (q : ℕ) (n : Name) (stamp : ℕ) (refs : Refs)
      (numbers : Numbers)
      → Enters lawful allowed c d (StoreIf q n stamp refs numbers Stored)
      → contents_of (present d) n ≡ Some record { stamp = stamp + 1; refs = refs; numbers = numbers }
  replaced_now c d q n stamp refs numbers h =
      let stands = (comes_enters c d (StoreIf q n stamp refs numbers Stored) h).stands in
      let make : ℕ → Contents = λ k. record { stamp = k + 1; refs = refs; numbers = numbers } in
      ap (λ (s : PlainStore). contents_of s n) (present-enters c d (StoreIf q n stamp refs numbers Stored) h)
      ∙ (contents_of-changed (with_all refs numbers) n (store_after (present c) h.between)
      ∙ (ap (option_map (with_all refs numbers)) stands.there ∙ ap (λ (k : ℕ). Some (make k)) stands.answers))

  -- what a conditional store found changed is there afterwards
  pub found_now : (c d : Sight U) (q : ℕ) (n : Name) (stamp : ℕ) (refs : Refs)
      (numbers : Numbers) (found : ℕ)
      → Enters lawful allowed c d (StoreIf q n stamp refs numbers (Changed found))
      → (answer : Contents) × (contents_of (present d) n ≡ Some answer) × (answer.stamp ≡ found) ×
      (found ≢ stamp)
  found_now c d q n stamp refs numbers found h =
      let stands = (comes_enters c d (StoreIf q n stamp refs numbers (Changed found)) h).stands in (
        stands.contents,
        ap (λ (s : PlainStore). contents_of s n)
            (present-enters c d (StoreIf q n stamp refs numbers (Changed found)) h) ∙ stands.there,
        sym stands.answers.1,
        (λ (e : found ≡ stamp). stands.answers.0 (sym stands.answers.1 ∙ e)),
      )

  -- an entry that a caller makes while nobody else makes one
  pub enters_alone : ((u : U) → UsageLaws (lawful u) (allowed u)) → (c d : Sight U) (e : Entry)
      → IsSameCaller c d → caller_of e ≡ c.number → d.seen ≡ c.seen ++ e ∷ [] → d.mine ≡ c.mine ++ e ∷ []
      → HasHistory lawful allowed c → MayCome (lawful c.usage) (allowed c.usage) (present c) e
      → Enters lawful allowed c d e
  enters_alone laws c d e caller own seen mine has comes = record {
    caller = caller;
    own = own;
    between = [];
    others = refl;
    seen = seen;
    mine = mine;
    come = (comes, tt);
    history = has_history_goes lawful allowed laws c d (e ∷ []) has
        record {
          caller = caller;
          more = e ∷ [];
          seen = seen;
          mine = mine;
          calls = calls_of-own c.number e own;
          come = (comes, tt);
        };
  }
