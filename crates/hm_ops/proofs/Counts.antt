-- What a call says of a caller is said of the same caller with other counts of places and regions.
use Rattle.std.proofs.Common.{◌≡◌, ℕ, List, sym, subst}
use Rattle.hm_model.specs.declared.object.Field.{Field}
use Rattle.hm_model.specs.declared.entry.Entry.{Entry}
use Rattle.hm_model.specs.declared.root.Root.{Root}
use Rattle.hm_model.specs.Store.{Numbers, PlainStore}
use Rattle.hm_model.specs.Sight.{Sight, Places, AreSet, Continues, Enters, Goes, IsSameCaller, IsSet, IsUntended}
use Rattle.hm_model.specs.Calls.{Creates, FindsChanged, MayCreate, MayStore, MayStoreIf, Stores, StoresAll}
use Rattle.hm_ops.specs.Turning.{recounted}

module _ {U : Type 0} (lawful : U → PlainStore → Type 0) (allowed : U → PlainStore → Entry → Type 0)
    (c : Sight U) (used free : ℕ) where
  abbrev k : Sight U
  k = recounted c used free

  module _ (d : Sight U) where
    same_caller : IsSameCaller k d → IsSameCaller c d
    same_caller h = record {
      heap = h.heap;
      usage = h.usage;
      start = h.start;
      number = h.number;
      span = h.span;
    }

    untended : IsUntended k d → IsUntended c d
    untended h = record { copying = h.copying; kept = h.kept; moves = h.moves; tends = h.tends }

    abbrev enters : (e : Entry) → Enters lawful allowed k d e → Enters lawful allowed c d e
    enters e h = record {
      caller = same_caller h.caller;
      own = h.own;
      between = h.between;
      others = h.others;
      seen = h.seen;
      mine = h.mine;
      come = h.come;
      history = h.history;
    }

    goes : (own : List Entry) → Goes lawful allowed k d own → Goes lawful allowed c d own
    goes own h = record {
      caller = same_caller h.caller;
      more = h.more;
      seen = h.seen;
      mine = h.mine;
      calls = h.calls;
      come = h.come;
    }

    continues : Continues lawful allowed k d → Continues lawful allowed c d
    continues h = record {
      own = h.own;
      goes = goes h.own h.goes;
      untended = untended h.untended;
    }

    creates : (into : Root) (refs : Places) (numbers : Numbers)
        → Creates lawful allowed k d into refs numbers → Creates lawful allowed c d into refs numbers
    creates into refs numbers h = record {
      name = h.name;
      entry = enters _ h.entry;
      now = h.now;
      roots = record { here = h.roots.here; others = h.roots.others };
      room = h.room;
    }

    stores : (at : Root) (field : Field) → Stores lawful allowed k d at field
        → Stores lawful allowed c d at field
    stores at field h = record {
      name = h.name;
      place = h.place;
      entry = enters _ h.entry;
      was = h.was;
      before = h.before;
      now = h.now;
      roots = h.roots;
      room = h.room;
    }

    stores_all : (at : Root) (stamp : ℕ) (refs : Places) (numbers : Numbers)
        → StoresAll lawful allowed k d at stamp refs numbers
        → StoresAll lawful allowed c d at stamp refs numbers
    stores_all at stamp refs numbers h = record {
      name = h.name;
      place = h.place;
      entry = enters _ h.entry;
      now = h.now;
      roots = h.roots;
      room = h.room;
    }

    finds_changed : (at : Root) (stamp : ℕ) (refs : Places) (numbers : Numbers) (found : ℕ)
        → FindsChanged lawful allowed k d at stamp refs numbers found
        → FindsChanged lawful allowed c d at stamp refs numbers found
    finds_changed at stamp refs numbers found h = record {
      name = h.name;
      place = h.place;
      entry = enters _ h.entry;
      other = h.other;
      answer = h.answer;
      now = h.now;
      has_stamp = h.has_stamp;
      roots = h.roots;
      room = h.room;
    }

  -- a caller with other counts may make the same calls
  module _ (p : Sight U) (is : p ≡ k) where
    pub still_set : (at : Root) → IsSet c at → IsSet p at
    still_set at h = subst (λ (x : Sight U). IsSet x at) (sym is) h

    pub still_all_set : (refs : Places) → AreSet c refs → AreSet p refs
    still_all_set refs h = subst (λ (x : Sight U). AreSet x refs) (sym is) h

    pub still_creates : (refs : Places) (numbers : Numbers) → MayCreate lawful allowed c refs numbers
        → MayCreate lawful allowed p refs numbers
    still_creates refs numbers h = subst (λ (x : Sight U). MayCreate lawful allowed x refs numbers) (sym is) h

    pub still_stores : (at : Root) (field : Field) → MayStore lawful allowed c at field
        → MayStore lawful allowed p at field
    still_stores at field h = subst (λ (x : Sight U). MayStore lawful allowed x at field) (sym is) h

    pub still_replaces : (at : Root) (stamp : ℕ) (refs : Places) (numbers : Numbers)
        → MayStoreIf lawful allowed c at stamp refs numbers
        → MayStoreIf lawful allowed p at stamp refs numbers
    still_replaces at stamp refs numbers h =
        subst (λ (x : Sight U). MayStoreIf lawful allowed x at stamp refs numbers) (sym is) h

    -- and what they do with it they do with the caller as it was
    module _ (d : Sight U) where
      pub continues_from : Continues lawful allowed p d → Continues lawful allowed c d
      continues_from h = continues d (subst (λ (x : Sight U). Continues lawful allowed x d) is h)

      pub creates_from : (into : Root) (refs : Places) (numbers : Numbers)
          → Creates lawful allowed p d into refs numbers → Creates lawful allowed c d into refs numbers
      creates_from into refs numbers h = creates d into refs numbers
          (subst (λ (x : Sight U). Creates lawful allowed x d into refs numbers) is h)

      pub stores_from : (at : Root) (field : Field) → Stores lawful allowed p d at field
          → Stores lawful allowed c d at field
      stores_from at field h = stores d at field
          (subst (λ (x : Sight U). Stores lawful allowed x d at field) is h)

      pub stores_all_from : (at : Root) (stamp : ℕ) (refs : Places) (numbers : Numbers)
          → StoresAll lawful allowed p d at stamp refs numbers
          → StoresAll lawful allowed c d at stamp refs numbers
      stores_all_from at stamp refs numbers h = stores_all d at stamp refs numbers
          (subst (λ (x : Sight U). StoresAll lawful allowed x d at stamp refs numbers) is h)

      pub finds_changed_from : (at : Root) (stamp : ℕ) (refs : Places) (numbers : Numbers) (found : ℕ)
          → FindsChanged lawful allowed p d at stamp refs numbers found
          → FindsChanged lawful allowed c d at stamp refs numbers found
      finds_changed_from at stamp refs numbers found h = finds_changed d at stamp refs numbers found
          (subst (λ (x : Sight U). FindsChanged lawful allowed x d at stamp refs numbers found) is h)
