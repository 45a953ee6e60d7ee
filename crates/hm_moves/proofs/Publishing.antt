-- A new object is published, or a later version of one is hung.
use Rattle.std.proofs.Common.{◌≡◌, ◌≢◌, ◌<◌, ◌+◌, ◌&&◌, ◌||◌, ◌==◌, not, ℕ, zero, suc, Bool, true, false, List, [], ◌∷◌, ◌++◌, Option, Some, None, IsSome, is_some, slice_index, slice_set, slice_index_or, refl, sym, ap, ◌∙◌, subst, arith, ⊎_elim, ne_eqb}
use Rattle.std.proofs.lemmas.Bool.{cases_Bool}
use Rattle.hm_moves.proofs.Words.{Shape, Version, word_at, Known, Part, IsWritten, HasRoom, naming_word, Heap, Entry, PlainStore, Builds, Name, IsThere, store_of, IsPublished}
use Rattle.hm_moves.specs.Acts.{next_version, listed}
use Rattle.hm_moves.specs.After.{heap_after}
use Rattle.hm_moves.specs.Allowed.{MayBegin, MayLink, IsFirst, IsLater, IsBuilt, next_name}
use Rattle.hm_moves.proofs.Words.{nothing_written, Contents, Create, contents_of, made_count, create_count, made_count-legal, well_made_legal, store_after-append, there_after, contents_of-push_new, new_contents}
use Rattle.hm_model.proofs.WellMade.{fresh_name}
use Rattle.hm_moves.proofs.Named.{name_once, name_some}
use Rattle.hm_moves.proofs.Words.{where_zero, Spells, Refers, reference_at, words_at, link_of}
use Rattle.hm_rounds.specs.Views.{title}
use Rattle.hm_rounds.specs.Objects.{entered}
use Rattle.hm_rounds.proofs.Parting.{part_else}
use Rattle.hm_moves.specs.Places.{row_of}
use Rattle.hm_moves.specs.Cycles.{field_count, field_word}
use Rattle.hm_moves.specs.Showing.{name_shown, version_shown, next_shown}
use Rattle.hm_moves.proofs.Live.{some_there}
use Rattle.hm_moves.proofs.Held.{none_written}
use Rattle.hm_rounds.specs.State.{State, put, put_row, put_word}
use Rattle.hm_rounds.specs.Steps as steps
use Rattle.hm_rounds.specs.After as turned
use Rattle.hm_rounds.specs.Allowed.{IsCopy}
use Rattle.hm_moves.specs.declared.moving.Build.TheVariants.{Publish, LinkStore}
use Rattle.hm_rounds.specs.Runs.{MayTake}
use Rattle.hm_rounds.proofs.Steps.{good_step}
use Rattle.hm_moves.proofs.Fields.{field_zero, shown_as, any_shown, same_or_not, eq_turn, put_same, row_same}
use Rattle.hm_moves.proofs.ShownHeaps.{head_else, put_else, heap_published, says_stored}
use Rattle.hm_moves.proofs.Building.{Ready, later, bare_then, its_row_low, its_room, next_at, next_low, next_here, has_place, me_below, fields_back, passed_before, short_before, bare_then_is, no_more, mark_stays, written_stays, look_there, look_into, low_there, acted_of, may_be_bare_then, Turned, AreLow}

module _ {U : Type 0} {h : Heap} {seen : List Entry} {p : Part U} {moves : ℕ → ℕ} {x : State}
    (ready : Ready h seen p moves x) (by_scan : Bool) (o : Option Known) where
  abbrev its : Shape
  its = p.site.shape

  abbrev me : ℕ
  me = p.number

  abbrev its_row : ℕ
  its_row = row_of p.site.shape p.number p.draft.region

  -- a new version is the caller's next, and was not published
  next_none : HasRoom p → h.index (next_version p).0 ≡ None
  next_none room = ap h.index (next_at ready)
      ∙ ready.placed.unused its_row (h.places.used its_row) (its_row_low ready)
      (its_room ready room)
      (omega arith)

  hold_next : (k : Known) → HasRoom p → k.version ≡ next_version p → (v : ℕ)
      → put_row x.hands.held me
      (λ other. x.hands.held me other || ((other == x.hands.next me) && not (x.hands.next me == 0)))
      me v
      ≡ ((any_shown p.hands.held v || false) || shown_as (Some k) v)
  hold_next k room at v =
      let is : x.hands.next me ≡ version_shown k.version = next_here ready room ∙ ap version_shown
      (sym at) in
      row_same x.hands.held me
      (λ other. x.hands.held me other || ((other == x.hands.next me) && not (x.hands.next me == 0)))
      v
      ∙ (ap (λ (n : ℕ). x.hands.held me v || ((v == n) && not (n == 0))) is
      ∙ (ap (λ (t : Bool). x.hands.held me v || ((v == version_shown k.version) && not t))
      (ne_eqb (version_shown k.version) 0 (λ e. omega (arith, e)))
      ∙ (ap (λ (t : Bool). t || ((v == version_shown k.version) && true)) (ready.part.hands.held v)
      ∙ (ap (λ (t : Bool). any_shown p.hands.held v || (t && true))
      (eq_turn v (version_shown k.version))
      ∙ held_more (any_shown p.hands.held v) (version_shown k.version == v)))))
    where
      held_more : (a b : Bool) → (a || (b && true)) ≡ ((a || false) || b)
      held_more true b = refl
      held_more false true = refl
      held_more false false = refl

  none_written_yet : {A : Type 0} (f : ℕ)
      → IsSome (slice_index_or nothing_written (field_word f) None) → A
  none_written_yet f some =
      let r = some_there (slice_index_or nothing_written (field_word f) None) some in
      absurd (none_written (field_word f) r.0 r.1)

  -- the references of a built version are written
  refs_written : (c : Contents) → HasRoom p → IsBuilt p.hands.held p.draft.written c → (f : ℕ)
      → 0 < f
      → f < field_count → x.hands.written me f ≡ true
  refs_written c room built zero some low = absurd (omega (arith, some))
  refs_written c room built (suc f) some low =
      let r = built.refs f (omega (arith, low)) in
      (written_stays ready) (suc f) low room
      (ap (λ (j : ℕ). is_some (slice_index_or p.draft.written j None))
      (omega arith)
      ∙ ap is_some r.1)

  -- an object that is not there is not in the store
  not_stored : (n : Name) → contents_of (store_of h.history) n ≡ None → x.store.has (name_shown n)
      ≡ false
  not_stored n none = ⊎_elim
      (λ (t : x.store.has (name_shown n) ≡ true).
      let r = ready.shows.store (name_shown n) t in
      let same : n ≡ r.0 = name_once n r.0 r.2 in
      let there : IsThere (store_of h.history) n = subst (IsThere (store_of h.history)) (sym same)
      r.1 in
      absurd (let no : false ≡ true = sym (ap is_some none) ∙ there in cc))
      (λ (t : x.store.has (name_shown n) ≡ false). t)
      (cases_Bool (x.store.has (name_shown n)))

  -- the caller's next object is new, and comes to be there
  abbrev create : Known → Entry
  create k = Create p.number k.name k.contents.refs k.contents.numbers

  name_new : (k : Known) → k.name ≡ next_name p → contents_of (store_of h.history) k.name ≡ None
  name_new k is =
      let maker : k.name.maker ≡ p.number = ap (λ (n : Name). n.maker) is in
      let made : made_count p.number (store_of h.history) ≡ create_count p.calls.mine =
      made_count-legal p.number p.site.start h.history ready.legal ∙ ap create_count
      ready.mine.calls.all in
      let count : k.name.count ≡ made_count p.number (store_of h.history) =
      ap (λ (n : Name). n.count) is ∙ sym made in
      fresh_name (store_of h.history) k.name (well_made_legal p.site.start h.history ready.legal)
      (count ∙ ap (λ (q : ℕ). made_count q (store_of h.history)) (sym maker))

  more_there : (e : Entry) (n : Name) → IsThere (store_of h.history) n
      → IsThere (store_of (h.history ++ e ∷ [])) n
  more_there e n there = subst (λ (t : PlainStore). IsThere t n)
      (sym (store_after-append [] h.history (e ∷ [])))
      (there_after (store_of h.history) e n there)

  new_there : (k : Known) → contents_of (store_of h.history) k.name ≡ None
      → IsThere (store_of (h.history ++ create k ∷ [])) k.name
  new_there k none = subst (λ (t : PlainStore). IsThere t k.name)
      (sym (store_after-append [] h.history (create k ∷ [])))
      (ap is_some (contents_of-push_new (store_of h.history)
      (k.name, new_contents k.contents.refs k.contents.numbers) none))

  stored_one : (k : Known) → contents_of (store_of h.history) k.name ≡ None → (i : ℕ)
      → put x.store.has (name_shown k.name) true i ≡ true
      → (n : Name) × IsThere (store_of (h.history ++ create k ∷ [])) n × (i ≡ name_shown n)
  stored_one k none i has = ⊎_elim
      (λ (e : i ≡ name_shown k.name). (k.name, new_there k none, e))
      (λ (ne : i ≢ name_shown k.name).
      let r = ready.shows.store i (sym (put_else x.store.has (name_shown k.name) true i ne)
      ∙ has) in
      (r.0, more_there (create k) r.0 r.1, r.2))
      (same_or_not i (name_shown k.name))

  -- words that refer to one object have one title
  abbrev title_of : Option Name → ℕ
  title_of None = 0
  title_of (Some n) = name_shown n

  refers_title : (w : ℕ) (r : Option Name) → Refers h.index w r → title x.versions w ≡ title_of r
  refers_title w None e = ap (title x.versions) e
  refers_title w (Some n) e =
      let word : w ≡ version_shown e.0.version = e.2 ∙ omega arith in
      ap (title x.versions) word ∙ (some_title (version_shown e.0.version) (λ z. omega (arith, z))
      ∙ (ready.shows.object e.0 e.1 ∙ ap name_shown e.3))
    where
      some_title : (w : ℕ) → w ≢ 0 → title x.versions w ≡ x.versions.object w
      some_title w ne = rw (ne_eqb w 0 ne) refl

  spelled : (w : ℕ) (r : Option Name) → Spells p.hands.held w r → Refers h.index w r
  spelled w None e = e
  spelled w (Some n) e = (e.0, ready.mine.hands.held e.0 e.1, e.2, e.3)

  next_field : HasRoom p → (f w : ℕ) → f < field_count → IsWritten p.draft.written (field_word f) w
      → x.versions.word (x.hands.next me) f ≡ w
  next_field room f w low is = ap (λ (n : ℕ). x.versions.word n f) (next_here ready room)
      ∙ (ready.shows.words (next_version p) f (next_low ready room) low
      ∙ ready.mine.draft.written room (field_word f) w is)

  -- a copy has the titles of what it is a copy of
  is_copy : (at k : Known) → IsPublished h.index at → HasRoom p
      → IsBuilt p.hands.held p.draft.written k.contents
      → k.contents ≡ at.contents → IsCopy x me (version_shown at.version)
  is_copy at k there room built same zero some few = absurd (omega (arith, some))
  is_copy at k there room built same (suc f) some few =
      let low : f < 4 = let less = fields_back ready (suc f) few in omega (arith, less) in
      let r = built.refs f low in
      let new_word : x.versions.word (x.hands.next me) (suc f) ≡ r.0 = next_field room (suc f) r.0
      (fields_back ready (suc f) few)
      (subst (λ (j : ℕ). IsWritten p.draft.written j r.0) (omega arith)
      r.1) in
      let old_word : x.versions.word (version_shown at.version) (suc f)
      ≡ words_at its h.words at (2 + f) =
      ready.shows.words at.version (suc f) (low_there ready at there)
      (fields_back ready (suc f) few)
      ∙ ap (λ (j : ℕ). slice_index h.words (word_at its at.version j)) (omega arith) in
      let new_title = refers_title r.0 (reference_at k.contents f)
      (spelled r.0 (reference_at k.contents f) r.2) in
      let old_title = refers_title (words_at its h.words at (2 + f)) (reference_at at.contents f)
      ((ready.contents at there).refs f low) in
      ap (title x.versions) new_word
      ∙ (new_title ∙ (ap (λ (c : Contents). title_of (reference_at c f)) same
      ∙ (sym old_title ∙ ap (title x.versions) (sym old_word))))

  has_hung : (at next : ℕ) (copy : Bool) → (entered x me (steps.Hang at next copy)).has
      ≡ x.store.has
  has_hung at next true = refl
  has_hung at next false = refl

  entry_there : (e : Option Entry) (n : Name) → IsThere (store_of h.history) n
      → IsThere (store_of (h.history ++ listed (where_zero e 0))) n
  entry_there None n there = no_more ready n there
  entry_there (Some e) n there = more_there e n there

  module _ (names : Name → Type 0) (make : Entry → Type 0) (clean : Type 0)
      (comes : Known → ℕ → Known → Type 0) where
    -- the state after a new object is published
    pub publish : (k : Known) (w : ℕ) → MayBegin names make clean comes p k
        → AreLow ready by_scan o (Publish k) w → Turned ready by_scan o (Publish k) w
    publish k w may low = record {
      now = turned.after x me b step;
      acted = acted_of ready by_scan o (Publish k) w None (heap_after h p (Builds (Publish k)) w)
          (turned.after x me b step).uses (turned.after x me b step).versions
          (turned.after x me b step).store
          x.scan (turned.after x me b step).hands (turned.after x me b step).bare
          (good_step x me b step take ready.rules)
          (heap_published its h moves x ready.shows
          (slice_set h.words (word_at its (next_version p) 0) 0) (h.history ++ create k ∷ [])
          (head_else its h.words (next_version p) 0 0)
          (put_word x.versions.word (x.hands.next me) 0 0)
          (says_stored its h moves x ready.shows ready.wide (next_version p) 0 0 (x.hands.next me) 0
          (next_low ready first.room)
          record { low = omega arith; is = refl } (next_here ready first.room))
          x.scan (turned.after x me b step).hands (turned.after x me b step).bare
          me its_row k (turned.after x me b step).store (name_shown k.name) 0 (its_row_low ready)
          (its_room ready first.room)
          (ap (λ (v : Version). v.0) first.version ∙ next_at ready)
          (ap (λ (v : Version). h.index v.0) first.version ∙ next_none first.room)
          (next_here ready first.room ∙ ap version_shown (sym first.version)) refl (sym first.rank)
          (stored_one k (name_new k first.name)))
          (mark_stays ready) (passed_before ready (Some k)) (short_before ready (Some k)) refl
          (hold_next k first.room first.version)
          (put_same x.hands.next me (next_shown P))
          (λ f few room some. none_written_yet f some)
          (bare_then_is ready P);
      others = λ r ne. part_else x me b step r ne;
      roles = λ row. refl;
    }
      where
        first : IsFirst names p k
        first = may.first

        P : Part U
        P = later p by_scan o (Publish k) w None

        b : Bool
        b = bare_then p P

        step : steps.Step
        step = steps.Builds (steps.Create (name_shown k.name) (next_shown P))

        take : MayTake x me b step
        take = record {
          below = me_below ready;
          allowed = record {
            place = has_place ready first.room;
            written = λ f some few. refs_written k.contents first.room first.built f some
                (fields_back ready f few);
            some = name_some k.name;
            fresh = not_stored k.name (name_new k first.name);
          };
          truly = may_be_bare_then ready by_scan o (Publish k) w None low step refl
              (hold_next k first.room first.version) refl;
        }

    -- a later version is hung
    pub hang : (at k : Known) (entry : Option Entry) (copy : Bool)
        → MayLink names make clean comes p at k entry
        → 0 ≡ link_of its h.words at → (copy ≡ true → k.contents ≡ at.contents)
        → AreLow ready by_scan o (LinkStore at k entry) 0 → Turned ready by_scan o
        (LinkStore at k entry) 0
    hang at k entry copy may zero_link copies low = record {
      now = turned.after x me b step;
      acted = acted_of ready by_scan o (LinkStore at k entry) 0 None
          (heap_after h p (Builds (LinkStore at k entry)) 0)
          (turned.after x me b step).uses (turned.after x me b step).versions
          (turned.after x me b step).store
          x.scan (turned.after x me b step).hands (turned.after x me b step).bare
          (good_step x me b step take ready.rules)
          (heap_published its h moves x ready.shows
          (slice_set h.words (word_at its at.version 0) (naming_word (Some k.version)))
          (h.history ++ listed (where_zero entry 0))
          (head_else its h.words at.version 0 (naming_word (Some k.version)))
          (put_word x.versions.word (version_shown at.version) 0 (x.hands.next me))
          (λ v f few small. ap (λ (n : ℕ). put_word x.versions.word (version_shown at.version) 0 n
          (version_shown v) f)
          next_word
          ∙ says_stored its h moves x ready.shows ready.wide at.version 0 0
          (version_shown at.version)
          (naming_word (Some k.version)) (low_there ready at there) field_zero refl v f few small)
          x.scan (turned.after x me b step).hands (turned.after x me b step).bare
          me its_row k (turned.after x me b step).store
          (x.versions.object (version_shown at.version))
          (x.versions.rank (version_shown at.version) + 1) (its_row_low ready)
          (its_room ready next.room)
          (ap (λ (v : Version). v.0) next.version ∙ next_at ready)
          (ap (λ (v : Version). h.index v.0) next.version ∙ next_none next.room)
          (next_here ready next.room ∙ ap version_shown (sym next.version))
          (ready.shows.object at there ∙ ap name_shown (sym next.name))
          (ap (λ (n : ℕ). n + 1) (ready.shows.rank at there) ∙ sym next.rank)
          (λ i has. let r = ready.shows.store i
          (ap (λ (f : ℕ → Bool). f i)
          (sym (has_hung (version_shown at.version) (next_shown P) copy))
          ∙ has) in
          (r.0, entry_there entry r.0 r.1, r.2)))
          (mark_stays ready) (passed_before ready (Some k)) (short_before ready (Some k)) refl
          (hold_next k next.room next.version)
          (put_same x.hands.next me (next_shown P))
          (λ f few room some. none_written_yet f some)
          (bare_then_is ready P);
      others = λ r ne. part_else x me b step r ne;
      roles = λ row. refl;
    }
      where
        next : IsLater p at k
        next = may.later

        there : IsPublished h.index at
        there = look_there ready at may.look

        next_word : x.hands.next me ≡ naming_word (Some k.version)
        next_word = next_here ready next.room ∙ (ap version_shown (sym next.version) ∙ omega arith)

        P : Part U
        P = later p by_scan o (LinkStore at k entry) 0 None

        b : Bool
        b = bare_then p P

        step : steps.Step
        step = steps.Builds (steps.Hang (version_shown at.version) (next_shown P) copy)

        all_written : (f : ℕ) → f < field_count → x.hands.written me f ≡ true
        all_written zero few = written_stays ready 0 few next.room (ap is_some next.link)
        all_written (suc f) few = refs_written k.contents next.room next.built (suc f) (omega arith)
            few

        take : MayTake x me b step
        take = record {
          below = me_below ready;
          allowed = (
            record {
              look = look_into ready at may.look;
              last = ready.shows.words at.version 0 (low_there ready at there) (omega arith)
                  ∙ sym zero_link;
              place = has_place ready next.room;
              written = λ f few. all_written f (fields_back ready f few);
              link = next_field next.room 0 0 (omega arith) next.link;
            },
            λ e. is_copy at k there next.room next.built (copies e),
          );
          truly = may_be_bare_then ready by_scan o (LinkStore at k entry) 0 None low step refl
              (hold_next k next.room next.version) refl;
        }
