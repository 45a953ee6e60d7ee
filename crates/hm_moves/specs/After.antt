-- What a move leaves: the heap, what is kept of the caller, and what its seat has seen.
use Rattle.std.specs.Prelude.{ℕ, ◌+◌, ◌-◌, ◌*◌, ◌/◌, ◌==◌, ◌&&◌, ◌||◌, not, nat_le, nat_lt, Bool, false, List, [], ◌∷◌, ◌++◌, slice_set, Option, Some, None, filter, if◌then◌else◌}
use Rattle.std.specs.List.{list_any}
use Rattle.hm_shape.specs.declared.roles.Roles.{Roles}
use Rattle.hm_shape.specs.declared.shape.Shape.{Shape}
use Rattle.hm_shape.specs.Layout.{first_number, first_reference, link_at}
use Rattle.hm_shape.specs.Words.{naming_word}
use Rattle.hm_model.specs.declared.entry.Entry.{Entry}
use Rattle.hm_moves.specs.declared.part.Known.{Known}
use Rattle.hm_moves.specs.declared.part.Draft.{Draft}
use Rattle.hm_moves.specs.declared.part.Hands.{Hands}
use Rattle.hm_moves.specs.declared.part.Part.{Part}
use Rattle.hm_moves.specs.declared.part.View.{View}
use Rattle.hm_moves.specs.declared.moving.Build.{Build}
use Rattle.hm_moves.specs.declared.moving.Build.TheVariants.{StoreOwn, Publish, LinkStore, Shorten}
use Rattle.hm_moves.specs.declared.moving.Tick.{Tick}
use Rattle.hm_moves.specs.declared.moving.Tick.TheVariants.{LoadStage, MoveStage, LoadReply, StoreReply}
use Rattle.hm_moves.specs.declared.moving.Shift.{Shift}
use Rattle.hm_moves.specs.declared.moving.Shift.TheVariants.{LoadRoles, Join, Turn, Reuse}
use Rattle.hm_moves.specs.declared.moving.Act.{Act}
use Rattle.hm_moves.specs.declared.moving.Act.TheVariants.{Looks, Builds, Ticks, Shifts}
use Rattle.hm_moves.specs.declared.moving.Move.{Move}
use Rattle.hm_moves.specs.Chain.{Index, with_one}
use Rattle.hm_moves.specs.Places.{Heap, Places, row_of, places_with}
use Rattle.hm_moves.specs.Acts.{word_of, becomes, entry_of, publishes, listed}
use Rattle.hm_moves.specs.Cycles.{is_from, is_idle, is_version, role_at, bared, cursor_after, found_end, mark_after, met_after}
use Rattle.hm_moves.specs.Decoding.{seen_word}
use Rattle.hm_moves.specs.Shifts.{frees, nothing_written, readied}

-- a version that is published comes into the index
abbrev pub index_with : Index → Option Known → Index
index_with index None = index
index_with index (Some k) = with_one index k

-- a caller's To region is a row
abbrev pub row_of_part : {U : Type 0} → Part U → ℕ
row_of_part p = row_of p.site.shape p.number p.draft.region

-- a cycle ends where the stage goes to Idle
abbrev pub ends_cycle : Tick → ℕ → Bool
ends_cycle LoadStage x = false
ends_cycle (MoveStage from to) x = (x == seen_word from) && is_idle to.phase
ends_cycle (LoadReply of) x = false
ends_cycle (StoreReply reply) x = false

-- then the rows that are From are dead, and one cycle more is done
abbrev pub with_dead : Bool → Places → Places
with_dead ends places = record places {
  dead = λ row. places.dead row || (ends && is_from (places.role row));
  done = if ends then places.done + 1 else places.done;
}

-- and their versions leave the index
abbrev pub without_from : Bool → Shape → Places → Index → Index
without_from ends s places index v =
    if ends && is_from (places.role (v / s.versions)) then None else index v

-- a row is one of a caller's
abbrev pub is_row_of : Shape → ℕ → ℕ → Bool
is_row_of s q row = nat_le (q * s.regions) row && nat_lt row (q * s.regions + s.regions)

-- a caller's rows have these roles; the ones that are freed have no used places, are not dead, and
-- count as freed once more
abbrev pub with_roles : Shape → ℕ → Roles → (ℕ → Bool) → Places → Places
with_roles s q roles freed places = record places {
  used = λ row. if freed row then 0 else places.used row;
  freed = λ row. if freed row then places.freed row + 1 else places.freed row;
  role = λ row.
      if is_row_of s q row then role_at roles (row - q * s.regions) else places.role row;
  dead = λ row. places.dead row && not (freed row);
}

-- a caller frees its From rows, where it has seen more cycles done than when it joined
abbrev pub freed_rows : {U : Type 0} → Part U → Places → ℕ → Bool
freed_rows p places row =
    is_row_of p.site.shape p.number row && is_from (places.role row) && frees p

-- what a step on roles leaves of the rows
abbrev pub places_shifted : {U : Type 0} → Part U → Places → Shift → Places
places_shifted p places (LoadRoles of) = places
places_shifted p places (Join region roles) =
    with_roles p.site.shape p.number roles (freed_rows p places) places
places_shifted p places (Turn region roles) =
    with_roles p.site.shape p.number roles (λ row. false) places
places_shifted p places (Reuse roles) =
    with_roles p.site.shape p.number roles (freed_rows p places) places

-- what an act leaves of the rows, before a version is published
abbrev pub places_readied : {U : Type 0} → Part U → Places → Act → ℕ → Places
places_readied p places (Looks l) x = places
places_readied p places (Builds b) x = places
places_readied p places (Ticks t) x = with_dead (ends_cycle t x) places
places_readied p places (Shifts f) x = places_shifted p places f

-- and of the index
abbrev pub index_readied : Shape → Places → Index → Act → ℕ → Index
index_readied s places index (Looks l) x = index
index_readied s places index (Builds b) x = index
index_readied s places index (Ticks t) x = without_from (ends_cycle t x) s places index
index_readied s places index (Shifts f) x = index

-- the heap after an act that found x
abbrev pub heap_after : {U : Type 0} → Heap → Part U → Act → ℕ → Heap
heap_after h p act x = record {
  words = slice_set h.words (word_of p act) (becomes act x);
  index = index_with (index_readied p.site.shape h.places h.index act x) (publishes act x);
  places = places_with (places_readied p h.places act x) (row_of_part p) (publishes act x);
  history = h.history ++ listed (entry_of p.number act x);
}

-- link and references of a version name versions
abbrev pub is_naming : ℕ → Bool
is_naming i = (i == link_at) || (nat_le first_reference i && nat_lt i first_number)

-- a word that names a version which is let go no longer counts as written
abbrev pub unless_named : Known → ℕ → Option ℕ → Option ℕ
unless_named k i None = None
unless_named k i (Some w) =
    if is_naming i && (w == naming_word (Some k.version)) then None else Some w

-- and so for the words from the i-th on
abbrev pub unnamed_from : Known → ℕ → List (Option ℕ) → List (Option ℕ)
unnamed_from k i [] = []
unnamed_from k i (w ∷ written) = unless_named k i w ∷ unnamed_from k (i + 1) written

-- all words, where a version may be let go
abbrev pub unnamed : Option Known → List (Option ℕ) → List (Option ℕ)
unnamed None written = written
unnamed (Some k) written = unnamed_from k 0 written

-- a step that builds counts the word that it stores as written
abbrev pub built_with : List (Option ℕ) → Build → List (Option ℕ)
built_with written (StoreOwn i word) = slice_set written i (Some word)
built_with written (Publish fresh) = written
built_with written (LinkStore at fresh entry) = written
built_with written (Shorten at i target) = written

-- an act leaves these words written, and a version that it publishes leaves a new draft
abbrev pub written_with : List (Option ℕ) → Act → Option Known → List (Option ℕ)
written_with written act (Some k) = nothing_written
written_with written (Looks l) None = written
written_with written (Builds b) None = built_with written b
written_with written (Ticks t) None = written
written_with written (Shifts f) None = written

-- a place is used by a version that is published
abbrev pub count_of : Option Known → ℕ
count_of None = 0
count_of (Some k) = 1

-- the draft after a move
abbrev pub draft_after : Draft → Move → ℕ → Draft
draft_after d m x = record d {
  used = d.used + count_of (publishes m.act x);
  written = unnamed m.let_go (written_with d.written m.act (publishes m.act x));
}

-- a version that is let go leaves the held ones
abbrev pub without : List Known → Option Known → List Known
without held None = held
without held (Some k) = filter (λ m. not (is_version k m)) held

-- a version that is found or published is held, once
abbrev pub with_held : List Known → Option Known → List Known
with_held held None = held
with_held held (Some k) = if list_any (is_version k) held then held else held ++ k ∷ []

-- the hands after a move that found x, which names `found`: first the one let go leaves
abbrev pub hands_after : Hands → Move → ℕ → Option Known → Hands
hands_after hands m x found = record hands {
  held = with_held (with_held (without hands.held m.let_go) found) (publishes m.act x);
  own = hands.own ++ listed (publishes m.act x);
}

-- what was seen grows only with an entry, and is then the whole history
abbrev pub seen_after : List Entry → List Entry → Option Entry → List Entry
seen_after seen all None = seen
seen_after seen all (Some e) = all ++ e ∷ []

module _ {U : Type 0} where
  -- what is found, published and let go, by a caller whose act did already what it does to stage
  -- and regions
  abbrev pub worked : Part U → Move → ℕ → Option Known → Part U
  worked p m x found = bared p.cycle.scan.bare record p {
    draft = draft_after p.draft m x;
    hands = hands_after p.hands m x found;
    calls = record { mine = p.calls.mine ++ listed (entry_of p.number m.act x) };
    cycle = record p.cycle {
      scan = record p.cycle.scan {
        mark = mark_after p m found;
        cursor = cursor_after p m found;
        ends = p.cycle.scan.ends ++ found_end m.act x;
        met = met_after p m found;
      };
    };
  }

  -- the caller after a move that found x, which names `found`
  abbrev pub part_after : Part U → Move → ℕ → Option Known → Part U
  part_after p m x found = worked (readied p m.act x) m x found

  -- a caller that lets go of a held version, if one is given, and does nothing else
  abbrev pub letting : Part U → Option Known → Part U
  letting p let_go = bared p.cycle.scan.bare record p {
    draft = record p.draft { written = unnamed let_go p.draft.written };
    hands = record p.hands { held = without p.hands.held let_go };
  }

  -- a view has what was seen and its parts
  abbrev pub view : List Entry → List (Part U) → View U
  view seen parts = record { seen = seen; parts = parts }

  -- the view after a move of its part at a place, where `all` is the whole history before it
  abbrev pub view_after : View U → ℕ → List Entry → Part U → Move → ℕ → Option Known → View U
  view_after v place all p m x found =
      view (seen_after v.seen all (entry_of p.number m.act x))
      (slice_set v.parts place (part_after p m x found))

  -- the view after its part at a place let go of a version
  abbrev pub view_letting : View U → ℕ → Part U → Option Known → View U
  view_letting v place p let_go = record v { parts = slice_set v.parts place (letting p let_go) }
