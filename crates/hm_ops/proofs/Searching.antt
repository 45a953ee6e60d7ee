-- A search for the current version of an object: its steps, and one behind another.
use Rattle.std.proofs.Common.{◌≡◌, ◌<◌, ◌≤◌, ◌+◌, ◌++◌, ◌⊎◌, ◌&&◌, ◌==◌, ◌/◌, ◌%◌, ℕ, Bool, true, false, List, [], ◌∷◌, length, get_or, Option, Some, None, IfSome, Contains, unwrap_or, refl, sym, ap, ◌∙◌, subst, arith, inl, inr, append-nil, add-one}
use Rattle.std.specs.Prelude.{slice_get}
use Rattle.std.specs.Option.{option_or, option_to_list}
use Rattle.std.proofs.lemmas.List.Elements.{Contains-append_left, Contains-append_right}
use Rattle.hm_shape.specs.declared.version.Version.{Version}
use Rattle.hm_shape.specs.Layout.{link_at}
use Rattle.hm_model.specs.declared.entry.Entry.{Entry}
use Rattle.hm_model.specs.declared.object.Name.{Name}
use Rattle.hm_model.specs.Store.{PlainStore}
use Rattle.hm_model.specs.Sight.{Sight}
use Rattle.hm_moves.specs.declared.part.End.{End}
use Rattle.hm_moves.specs.declared.part.Known.{Known}
use Rattle.hm_moves.specs.declared.part.Part.{Part}
use Rattle.hm_moves.specs.Cycles.{field_count, field_word, is_at_cursor, is_next, is_scanning, known_from}
use Rattle.hm_cells.specs.Facts.{Facts, known_at, room_of, sight_of, with_hand}
use Rattle.hm_ops.specs.declared.bringing.Copied.{Copied}
use Rattle.hm_ops.specs.declared.bringing.Copied.TheVariants.{Already, Moved, NoRoom}
use Rattle.hm_ops.specs.declared.bringing.Brought.{Brought}
use Rattle.hm_ops.specs.declared.bringing.Search.{Search}
use Rattle.hm_ops.specs.declared.bringing.Search.TheVariants.{Goes, Ends}
use Rattle.hm_ops.specs.Resting.{IsKept}
use Rattle.hm_ops.specs.Bringing.{Brings, Comes, Follows, IsAhead, IsBrought, IsCopy, IsQuiet, IsUnmarked, Reaches, Searches, found_by, own_after, taken_by}
use Rattle.hm_ops.proofs.FieldLoads.{kept_more}
use Rattle.hm_ops.proofs.ScanSteps.{from_kept, same_then, scanning_kept}

-- the version that was found last
last_at : (next later : Option Version) (v : Version)
    → unwrap_or (option_or next later) v ≡ unwrap_or next (unwrap_or later v)
last_at None later v = refl
last_at (Some w) later v = refl

pub or_none : (o : Option Version) → option_or o None ≡ o
or_none None = refl
or_none (Some v) = refl

module _ {U : Type 0} where
  -- where the sights but for counts are the same nothing was taken
  pub quiet_counts : (s t : Facts U) (used free : ℕ)
      → sight_of t ≡ record (sight_of s) { used = used; free = free } → IsQuiet s 0 t
  quiet_counts s t used free same = record {
    caller = record {
      heap = ap (λ (c : Sight U). c.heap) same;
      usage = ap (λ (c : Sight U). c.usage) same;
      start = ap (λ (c : Sight U). c.start) same;
      number = ap (λ (c : Sight U). c.number) same;
      span = ap (λ (c : Sight U). c.span) same;
    };
    untended = record {
      copying = ap (λ (c : Sight U). c.copying) same;
      kept = ap (λ (c : Sight U). c.kept) same;
      moves = ap (λ (c : Sight U). c.moves) same;
      tends = ap (λ (c : Sight U). c.tends) same;
    };
    seen = ap (λ (c : Sight U). c.seen) same;
    mine = ap (λ (c : Sight U). c.mine) same;
    names = ap (λ (c : Sight U). c.roots) same;
    room = let e : room_of t.part ≡ room_of s.part = ap (λ (c : Sight U). c.room) same in omega (arith, e);
  }

  pub quiet_same : (s t : Facts U) → sight_of t ≡ sight_of s → IsQuiet s 0 t
  quiet_same s t same = quiet_counts s t (sight_of s).used (sight_of s).free same

  -- what is taken in two parts of a way is taken in all of it, whatever is in hand then
  pub quiet_then : (s t u : Facts U) (a b n : ℕ) (hand : List Version) → IsQuiet s a t → IsQuiet t b u
      → a + b ≡ n → IsQuiet s n (with_hand u hand)
  quiet_then s t u a b n hand first second sum = record {
    caller = record {
      heap = second.caller.heap ∙ first.caller.heap;
      usage = second.caller.usage ∙ first.caller.usage;
      start = second.caller.start ∙ first.caller.start;
      number = second.caller.number ∙ first.caller.number;
      span = second.caller.span ∙ first.caller.span;
    };
    untended = record {
      copying = second.untended.copying ∙ first.untended.copying;
      kept = second.untended.kept ∙ first.untended.kept;
      moves = second.untended.moves ∙ first.untended.moves;
      tends = second.untended.tends ∙ first.untended.tends;
    };
    seen = second.seen ∙ first.seen;
    mine = second.mine ∙ first.mine;
    names = second.names ∙ first.names;
    room = let one = first.room in let two = second.room in omega (arith, one, two, sum);
  }

  follows_hand : (s t : Facts U) (v : Version) (hand : List Version) (later : Option Version)
      → IfSome later (Follows s v t) → IfSome later (Follows s v (with_hand t hand))
  follows_hand s t v hand None h = tt
  follows_hand s t v hand (Some w) h = record { name = h.name; rank = h.rank }

  -- a search is at a version of the object with which it began
  record IsOf (s : Facts U) (v : Version) (p : Facts U) (at : Version) : Type 0 where
    name : (known_at p at).name ≡ (known_at s v).name
    rank : (known_at s v).rank ≤ (known_at p at).rank

  at_of : (s p : Facts U) (v : Version) (scan : Bool) (later : Option Version) → IsKept s v
      → Comes s v scan Already later p → IsOf s v p (unwrap_or later v)
  at_of s p v scan later kept first = go later first.follows
    where
      go : (o : Option Version) → IfSome o (Follows s v p) → IsOf s v p (unwrap_or o v)
      go None follows =
          let same : known_at p v ≡ known_at s v = (first.known v kept).1 in
          let rank : (known_at p v).rank ≡ (known_at s v).rank = ap (λ (k : Known). k.rank) same in
          record { name = ap (λ (k : Known). k.name) same; rank = omega (arith, rank) }
      go (Some w) follows =
          let rank = follows.rank in record { name = follows.name; rank = omega (arith, rank) }

  -- what is ahead of the cursor for the version with which it began is so for a later one
  ahead_still : (s p : Facts U) (v at : Version) → p.part.hands.own ≡ s.part.hands.own
      → p.part.cycle.scan.cursor ≡ s.part.cycle.scan.cursor → IsOf s v p at → IsAhead s v → IsAhead p at
  ahead_still s p v at own cursor of ahead k there here =
      let was : is_at_cursor s.part k link_at ≡ true =
      sym (λ i. is_next (slice_get (own i) (cursor i / field_count)) k
      && (link_at == field_word (cursor i % field_count))) ∙ here in
      go (ahead k (subst (λ (l : List Known). Contains l k) own there) was)
    where
      go : (Rattle.std.proofs.Common.◌≢◌ k.name (known_at s v).name) ⊎ (k.rank < (known_at s v).rank)
          → (Rattle.std.proofs.Common.◌≢◌ k.name (known_at p at).name) ⊎ (k.rank < (known_at p at).rank)
      go (inl other) = inl (λ e. other (e ∙ of.name))
      go (inr less) = inr (let rank = of.rank in omega (arith, rank, less))

  -- a search that ended has come there
  pub comes_of : (s t : Facts U) (v : Version) (scan : Bool) (b : Brought) → Brings s v scan b t
      → Comes s v scan b.copied b.later t
  comes_of s t v scan b h = record {
    quiet = h.quiet;
    cycle = h.cycle;
    roots = h.roots;
    hand = h.hand;
    known = h.known;
    follows = h.follows;
    own = h.own;
    unmarked = h.unmarked;
  }

  pub brings_of : (s t : Facts U) (v : Version) (scan : Bool) (b : Brought)
      → Comes s v scan b.copied b.later t → IsBrought s v t (unwrap_or b.later v) b.copied → Brings s v scan b t
  brings_of s t v scan b h brought = record {
    quiet = h.quiet;
    cycle = h.cycle;
    roots = h.roots;
    hand = h.hand;
    known = h.known;
    follows = h.follows;
    brought = brought;
    own = h.own;
    unmarked = h.unmarked;
  }

  -- whatever is in hand
  pub comes_hand : (s t : Facts U) (v : Version) (scan : Bool) (c : Copied) (later : Option Version)
      → Comes s v scan c later t → Comes s v scan c later (with_hand t (s.hand ++ option_to_list later))
  comes_hand s t v scan c later h = record {
    quiet = quiet_then s s t 0 (taken_by c) (taken_by c) (s.hand ++ option_to_list later) (quiet_same s s refl)
        h.quiet (omega arith);
    cycle = h.cycle;
    roots = h.roots;
    hand = refl;
    known = h.known;
    follows = follows_hand s t v (s.hand ++ option_to_list later) later h.follows;
    own = h.own;
    unmarked = λ by scans.
        let still = h.unmarked by scans in
        record { mark = still.mark; cursor = still.cursor; met = still.met };
  }

  pub comes_no_room : (s t : Facts U) (v : Version) (scan : Bool) (later : Option Version)
      → Comes s v scan Already later t → Comes s v scan NoRoom later t
  comes_no_room s t v scan later h = record {
    quiet = h.quiet;
    cycle = h.cycle;
    roots = h.roots;
    hand = h.hand;
    known = h.known;
    follows = h.follows;
    own = h.own;
    unmarked = h.unmarked;
  }

  brought_hand : (s t : Facts U) (v : Version) (hand : List Version) (w : Version) (c : Copied)
      → IsBrought s v t w c → IsBrought s v (with_hand t hand) w c
  brought_hand s t v hand w Already b = b
  brought_hand s t v hand w Moved b = b
  brought_hand s t v hand w NoRoom b = b

  module _ (s p t : Facts U) (v : Version) (scan : Bool) (later : Option Version) (kept : IsKept s v)
      (first : Comes s v scan Already later p) where
    of : IsOf s v p (unwrap_or later v)
    of = at_of s p v scan later kept first

    -- what was kept is kept still
    pub kept_on : (k : Version) → IsKept s k → IsKept p k
    kept_on k is = kept_more s p first.roots (λ w c. subst (λ (l : List Version). Contains l w) (sym first.hand)
        (Contains-append_left s.hand (option_to_list later) w c)) k is

    -- and so is the version at which the search is
    pub kept_last : IsKept p (unwrap_or later v)
    kept_last = go later first.hand
      where
        go : (o : Option Version) → p.hand ≡ s.hand ++ option_to_list o → IsKept p (unwrap_or o v)
        go None e = kept_on v kept
        go (Some w) e = inr (subst (λ (l : List Version). Contains l w) (sym e)
            (Contains-append_right s.hand (w ∷ []) w (0, omega arith, refl)))

    -- a search goes on from where one has come
    module _ (c : Copied) (next : Option Version) (second : Comes p (unwrap_or later v) scan c next t)
        (hand : List Version) (is : hand ≡ s.hand ++ option_to_list (option_or next later)) where
      follows_then : IfSome (option_or next later) (Follows s v (with_hand t hand))
      follows_then = go next second.follows
        where
          before : (o : Option Version) → o ≡ later → IfSome o (Follows s v p) → IfSome o (Follows s v (with_hand t hand))
          before None e f = tt
          before (Some w) e f =
              let same : known_at t w ≡ known_at p w = (second.known w
              (subst (λ (o : Option Version). IsKept p (unwrap_or o v)) (sym e) kept_last)).1 in
              let rank : (known_at t w).rank ≡ (known_at p w).rank = ap (λ (k : Known). k.rank) same in
              let low = f.rank in
              record { name = ap (λ (k : Known). k.name) same ∙ f.name; rank = omega (arith, rank, low) }

          go : (o : Option Version) → IfSome o (Follows p (unwrap_or later v) t)
              → IfSome (option_or o later) (Follows s v (with_hand t hand))
          go None f = before later refl first.follows
          go (Some w) f =
              let low = f.rank in let rank = of.rank in
              record { name = f.name ∙ of.name; rank = omega (arith, low, rank) }

      pub comes_then : Comes s v scan c (option_or next later) (with_hand t hand)
      comes_then = record {
        quiet = quiet_then s p t 0 (taken_by c) (taken_by c) hand first.quiet second.quiet (omega arith);
        cycle = same_then s.part p.part t.part first.cycle second.cycle;
        roots = second.roots ∙ first.roots;
        hand = is;
        known = λ k is_kept.
            let still = second.known k (kept_on k is_kept) in
            (still.0, still.1 ∙ (first.known k is_kept).1);
        follows = follows_then;
        own = second.own
            ∙ (ap (own_after t (unwrap_or next (unwrap_or later v)) c) first.own
            ∙ ap (λ (w : Version). own_after t w c s.part.hands.own) (sym (last_at next later v)));
        unmarked = λ by scans.
            let one = first.unmarked by scans in
            let two = second.unmarked by (scanning_kept s.part p.part first.cycle ∙ scans) in
            record {
              mark = two.mark ∙ one.mark;
              cursor = λ ahead. two.cursor (ahead_on one ahead) ∙ one.cursor ahead;
              met = λ ahead. two.met (ahead_on one ahead) ∙ one.met ahead;
            };
      }
        where
          ahead_on : IsUnmarked s v p → IsAhead s v → IsAhead p (unwrap_or later v)
          ahead_on one ahead =
              ahead_still s p v (unwrap_or later v) first.own (one.cursor ahead) of ahead

    -- where it ended is said of where it began
    brought_then : (w : Version) (c : Copied) → IsBrought p (unwrap_or later v) t w c → IsBrought s v t w c
    brought_then w Already b = sym (from_kept s.part p.part first.cycle w) ∙ b
    brought_then w Moved b = (
      record {
        of = b.0.of;
        name = b.0.name ∙ of.name;
        from = sym (from_kept s.part p.part first.cycle b.0.of.version) ∙ b.0.from;
        rank = b.0.rank;
        contents = b.0.contents;
      },
      b.1,
    )
    brought_then w NoRoom b = (
      sym (from_kept s.part p.part first.cycle w) ∙ b.0,
      let room = first.quiet.room in let none = b.1 in omega (arith, room, none),
    )

    pub brings_then : (b : Brought) → Brings p (unwrap_or later v) scan b t → (hand : List Version)
        → hand ≡ s.hand ++ option_to_list (option_or b.later later)
        → Brings s v scan record { copied = b.copied; later = option_or b.later later } (with_hand t hand)
    brings_then b second hand is =
        let comes = comes_then b.copied b.later (comes_of p t (unwrap_or later v) scan b second) hand is in
        brings_of s (with_hand t hand) v scan record { copied = b.copied; later = option_or b.later later } comes
        (brought_hand s t v hand (unwrap_or (option_or b.later later) v) b.copied
        (subst (λ (w : Version). IsBrought s v t w b.copied) (sym (last_at b.later later v))
        (brought_then (unwrap_or b.later (unwrap_or later v)) b.copied second.brought)))
