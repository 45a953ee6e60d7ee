-- A fetch behind which its caller copies out what it has read.
use Rattle.std.proofs.Common.{◌≡◌, ◌+◌, ◌≤◌, ℕ, Bool, false, List, [], Option, Some, append-nil, get_or, is_some, slice_index, refl, sym, ap, ◌∙◌, subst, arith}
use Rattle.hm_shape.specs.declared.version.Version.{Version}
use Rattle.hm_model.specs.declared.entry.Entry.{Entry}
use Rattle.hm_model.specs.declared.entry.Entry.TheVariants.{Fetch}
use Rattle.hm_model.specs.declared.object.Contents.{Contents}
use Rattle.hm_model.specs.declared.object.Name.{Name}
use Rattle.hm_model.specs.declared.root.Root.{Root}
use Rattle.hm_model.specs.declared.root.Snapshot.{Snapshot}
use Rattle.hm_model.specs.Store.{PlainStore}
use Rattle.hm_model.specs.Sight.{Continues, Enters, Rests, Sight, name_at}
use Rattle.hm_model.specs.Calls.{Fetches, FetchesAll, FetchesNumber, FetchesRef}
use Rattle.hm_model.proofs.CallFacts.{fetches_rests}
use Rattle.hm_cells.specs.Facts.{Facts, sight_of}
use Rattle.hm_ops.specs.Bringing.{CopiesBehind}

module _ {U : Type 0} (lawful : U → PlainStore → Type 0) (allowed : U → PlainStore → Entry → Type 0)
    (c : Sight U) (d f : Facts U) (b : CopiesBehind d f) where
  -- a copy shows in counts alone: but for these, the caller rests
  abbrev uncounted : Sight U
  uncounted = record (sight_of f) {
    room = (sight_of d).room;
    used = (sight_of d).used;
    free = (sight_of d).free;
  }

  uncounted_rests : Rests (sight_of d) uncounted
  uncounted_rests = record {
    caller = record {
      heap = b.quiet.caller.heap;
      usage = b.quiet.caller.usage;
      start = b.quiet.caller.start;
      number = b.quiet.caller.number;
      span = b.quiet.caller.span;
    };
    untended = record {
      copying = b.quiet.untended.copying;
      kept = b.quiet.untended.kept;
      moves = b.quiet.untended.moves;
      tends = b.quiet.untended.tends;
    };
    seen = b.quiet.seen;
    mine = b.quiet.mine;
    room = refl;
    used = refl;
    free = refl;
  }

  enters_counted : (e : Entry) → Enters lawful allowed c uncounted e → Enters lawful allowed c (sight_of f) e
  enters_counted e h = record {
    caller = record {
      heap = h.caller.heap;
      usage = h.caller.usage;
      start = h.caller.start;
      number = h.caller.number;
      span = h.caller.span;
    };
    own = h.own;
    between = h.between;
    others = h.others;
    seen = h.seen;
    mine = h.mine;
    come = h.come;
    history = record { history = h.history.history; calls = h.history.calls };
  }

  -- root places name what they named
  pub names_behind : (i : ℕ) → name_at (sight_of f).roots i ≡ name_at (sight_of d).roots i
  names_behind i = ap (λ (l : List (Option Name)). name_at l i) b.quiet.names

  -- the fetch stands
  pub fetched_behind : (from : Root) (x : Contents) → Fetches lawful allowed c (sight_of d) from x
      → (sight_of d).room ≡ c.room → (sight_of d).copying ≡ c.copying
      → Fetches lawful allowed c (sight_of f) from x
  fetched_behind from x fetch room copying =
      let h = fetches_rests lawful allowed c (sight_of d) uncounted from x fetch uncounted_rests in
      let taken = b.quiet.room in
      let one = b.one in
      record {
        name = h.name;
        place = h.place;
        entry = enters_counted (Fetch c.number h.name x) h.entry;
        now = h.now;
        room = record {
          falls = omega (arith, taken, room);
          by_one = omega (arith, taken, one, room);
          kept = λ still. let none = b.none (copying ∙ still) in omega (arith, taken, none, room);
        };
      }

  pub continues_behind : Continues lawful allowed (sight_of d) (sight_of f)
  continues_behind = record {
    own = [];
    goes = record {
      caller = b.quiet.caller;
      more = [];
      seen = b.quiet.seen ∙ sym (append-nil d.seen);
      mine = b.quiet.mine ∙ sym (append-nil d.part.calls.mine);
      calls = refl;
      come = tt;
    };
    untended = b.quiet.untended;
  }

  module _ (room : (sight_of d).room ≡ c.room) (copying : (sight_of d).copying ≡ c.copying) (from : Root) where
    pub all_behind : (hand : Root) (result : Snapshot)
        → FetchesAll lawful allowed c (sight_of d) from hand result
        → FetchesAll lawful allowed c (sight_of f) from hand result
    all_behind hand result h = record {
      answer = h.answer;
      fetch = fetched_behind from h.answer h.fetch room copying;
      value = h.value;
      roots = record {
        here = λ i low. names_behind (hand.0 + i) ∙ h.roots.here i low;
        below = λ k low. names_behind k ∙ h.roots.below k low;
        above = λ k high. names_behind k ∙ h.roots.above k high;
      };
    }

    pub number_behind : (i result : ℕ) → FetchesNumber lawful allowed c (sight_of d) from i result
        → FetchesNumber lawful allowed c (sight_of f) from i result
    number_behind i result h = record {
      answer = h.answer;
      fetch = fetched_behind from h.answer h.fetch room copying;
      value = h.value;
      roots = b.quiet.names ∙ h.roots;
    }

    pub ref_behind : (i : ℕ) (into : Root) (result : Bool)
        → FetchesRef lawful allowed c (sight_of d) from i into result
        → FetchesRef lawful allowed c (sight_of f) from i into result
    ref_behind i into result h = record {
      answer = h.answer;
      fetch = fetched_behind from h.answer h.fetch room copying;
      value = h.value;
      roots = record {
        here = names_behind into.0 ∙ h.roots.here;
        others = λ k other. names_behind k ∙ h.roots.others k other;
      };
    }
