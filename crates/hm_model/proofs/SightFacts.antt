-- What a caller has seen, from one call to the next.
use Rattle.std.proofs.Common.{◌≡◌, ℕ, ◌≤◌, Some, List, [], ◌∷◌, ◌++◌, refl, sym, ap, ◌∙◌, subst, append_assoc, append-nil, eq-eqb}
use Rattle.hm_model.specs.declared.object.Name.{Name}
use Rattle.hm_model.specs.declared.object.Contents.{Contents}
use Rattle.hm_model.specs.declared.object.Start.{Start}
use Rattle.hm_model.specs.declared.entry.Entry.{Entry}
use Rattle.hm_model.specs.Store.{PlainStore, contents_of, IsThere, IsWellMade, made_count}
use Rattle.hm_model.specs.Effect.{caller_of}
use Rattle.hm_model.specs.History.{store_after, store_of, calls_of, create_count, opening_of, IsSizedStart}
use Rattle.hm_model.specs.Lawful.{AllCome, IsLawful, UsageLaws}
use Rattle.hm_model.specs.Sight.{Sight, present, IsSameCaller, IsUntended, Rests, IsFresh, HasHistory, Goes, Continues, Enters}
use Rattle.hm_model.proofs.HistoryFacts.{store_after-append, calls_of-append, all_come_append, lawful_more, well_made_legal, made_count-legal, there_stays, stamp_never_falls, same_stamp}
use Rattle.hm_model.proofs.Openings.{lawful_opening}

-- the calls of a caller in one entry of its own
pub calls_of-own : (q : ℕ) (e : Entry) → caller_of e ≡ q → calls_of q (e ∷ []) ≡ e ∷ []
calls_of-own q e own = rw (eq-eqb (caller_of e) q own) refl

module _ {U : Type 0} where
  -- the same caller, from one call to the next
  pub same_caller_then : (c d f : Sight U) → IsSameCaller c d → IsSameCaller d f → IsSameCaller c f
  same_caller_then c d f h k =
      record {
        heap = k.heap ∙ h.heap;
        usage = k.usage ∙ h.usage;
        start = k.start ∙ h.start;
        number = k.number ∙ h.number;
        span = k.span ∙ h.span;
      }

  -- calls that do not tend, one after another
  pub untended_then : (c d f : Sight U) → IsUntended c d → IsUntended d f → IsUntended c f
  untended_then c d f h k =
      record {
        copying = k.copying ∙ h.copying;
        kept = k.kept ∙ h.kept;
        moves = k.moves ∙ h.moves;
        tends = k.tends ∙ h.tends;
      }

  -- calls on root places alone, one after another
  pub rests_then : (c d f : Sight U) → Rests c d → Rests d f → Rests c f
  rests_then c d f h k = record {
    caller = same_caller_then c d f h.caller k.caller;
    untended = untended_then c d f h.untended k.untended;
    seen = k.seen ∙ h.seen;
    mine = k.mine ∙ h.mine;
    room = k.room ∙ h.room;
    used = k.used ∙ h.used;
    free = k.free ∙ h.free;
  }

  -- a caller that has done nothing
  pub rests_none : (c : Sight U) → Rests c c
  rests_none c =
      record {
        caller = record { heap = refl; usage = refl; start = refl; number = refl; span = refl };
        untended = record { copying = refl; kept = refl; moves = refl; tends = refl };
        seen = refl;
        mine = refl;
        room = refl;
        used = refl;
        free = refl;
      }

module _ {U : Type 0} (lawful : U → PlainStore → Type 0) (allowed : U → PlainStore → Entry → Type 0) where
  abbrev ComeAt : U → PlainStore → List Entry → Type 0
  ComeAt u s es = AllCome (lawful u) (allowed u) s es

  -- a caller that has made no entry
  pub goes_rests : (c d : Sight U) → Rests c d → Goes lawful allowed c d []
  goes_rests c d h = record {
    caller = h.caller;
    more = [];
    seen = h.seen ∙ sym (append-nil c.seen);
    mine = h.mine ∙ sym (append-nil c.mine);
    calls = refl;
    come = tt;
  }

  -- a caller that has made one entry
  pub goes_enters : (c d : Sight U) (e : Entry) → Enters lawful allowed c d e
      → Goes lawful allowed c d (e ∷ [])
  goes_enters c d e h = record {
    caller = h.caller;
    more = h.between ++ e ∷ [];
    seen = h.seen;
    mine = h.mine;
    calls = calls_of-append c.number h.between (e ∷ [])
        ∙ (ap (λ (l : List Entry). l ++ calls_of c.number (e ∷ [])) h.others ∙ calls_of-own c.number e h.own);
    come = h.come;
  }

  -- the store that a caller has seen later on
  pub present-goes : (c d : Sight U) (own : List Entry) → (h : Goes lawful allowed c d own)
      → present d ≡ store_after (present c) h.more
  present-goes c d own h = ap store_of h.seen ∙ store_after-append [] c.seen h.more

  -- a caller's entries, one call after another
  pub goes_then : (c d f : Sight U) (xs ys : List Entry) → Goes lawful allowed c d xs
      → Goes lawful allowed d f ys → Goes lawful allowed c f (xs ++ ys)
  goes_then c d f xs ys h k =
      let others : calls_of c.number k.more ≡ ys = ap (λ (q : ℕ). calls_of q k.more) (sym h.caller.number)
      ∙ k.calls in
      record {
        caller = same_caller_then c d f h.caller k.caller;
        more = h.more ++ k.more;
        seen = k.seen ∙ (ap (λ (l : List Entry). l ++ k.more) h.seen ∙ append_assoc c.seen h.more k.more);
        mine = k.mine ∙ (ap (λ (l : List Entry). l ++ ys) h.mine ∙ append_assoc c.mine xs ys);
        calls = calls_of-append c.number h.more k.more
            ∙ (ap (λ (l : List Entry). l ++ calls_of c.number k.more) h.calls
            ∙ ap (λ (l : List Entry). xs ++ l) others);
        come = all_come_append (lawful c.usage) (allowed c.usage) (present c) h.more k.more h.come
            (subst (λ (s : PlainStore). ComeAt c.usage s k.more) (present-goes c d xs h)
            (subst (λ (u : U). ComeAt u (present d) k.more) h.caller.usage k.come));
      }

  -- a caller that has made no entry
  pub continues_rests : (c d : Sight U) → Rests c d → Continues lawful allowed c d
  continues_rests c d h = record { own = []; goes = goes_rests c d h; untended = h.untended }

  -- a caller that has done nothing
  pub continues_none : (c : Sight U) → Continues lawful allowed c c
  continues_none c = continues_rests c c (rests_none c)

  -- a caller that has made one entry
  pub continues_enters : (c d : Sight U) (e : Entry) → Enters lawful allowed c d e → IsUntended c d
      → Continues lawful allowed c d
  continues_enters c d e h k = record { own = e ∷ []; goes = goes_enters c d e h; untended = k }

  -- a caller's calls, one after another
  pub continues_then : (c d f : Sight U) → Continues lawful allowed c d → Continues lawful allowed d f
      → Continues lawful allowed c f
  continues_then c d f h k = record {
    own = h.own ++ k.own;
    goes = goes_then c d f h.own k.own h.goes k.goes;
    untended = untended_then c d f h.untended k.untended;
  }

  -- what a caller has seen stays a lawful history, in which its own entries are its calls
  pub has_history_goes : ((u : U) → UsageLaws (lawful u) (allowed u)) → (c d : Sight U) (own : List Entry)
      → HasHistory lawful allowed c → Goes lawful allowed c d own → HasHistory lawful allowed d
  has_history_goes laws c d own h k =
      let more = lawful_more (lawful c.usage) (allowed c.usage)
      (laws c.usage) c.start c.seen k.more h.history k.come in
      let whole : IsLawful (lawful c.usage) (allowed c.usage) c.start d.seen = subst
      (λ (l : List Entry). IsLawful (lawful c.usage) (allowed c.usage) c.start l) (sym k.seen) more in
      record {
        history = subst (λ (u : U). IsLawful (lawful u) (allowed u) d.start d.seen) (sym k.caller.usage)
            (subst (λ (start : Start). IsLawful (lawful c.usage) (allowed c.usage) start d.seen)
            (sym k.caller.start) whole);
        calls =
            ap (λ (q : ℕ). calls_of q d.seen) k.caller.number
            ∙ (ap (calls_of c.number) k.seen ∙ (calls_of-append c.number c.seen k.more
            ∙ (ap (λ (l : List Entry). l ++ calls_of c.number k.more) h.calls
            ∙ (ap (λ (l : List Entry). c.mine ++ l) k.calls ∙ sym k.mine))));
      }

  -- what a caller has seen, whatever its root places name
  pub has_history_rests : (c d : Sight U) → Rests c d → HasHistory lawful allowed c
      → HasHistory lawful allowed d
  has_history_rests c d h k = record {
    history = subst (λ (u : U). IsLawful (lawful u) (allowed u) d.start d.seen) (sym h.caller.usage)
        (subst (λ (start : Start). IsLawful (lawful c.usage) (allowed c.usage) start d.seen)
        (sym h.caller.start)
        (subst (λ (l : List Entry). IsLawful (lawful c.usage) (allowed c.usage) c.start l)
        (sym h.seen) k.history));
    calls = ap (λ (q : ℕ). calls_of q d.seen) h.caller.number
        ∙ (ap (calls_of c.number) h.seen ∙ (k.calls ∙ sym h.mine));
  }

  -- a caller of a fresh heap has a lawful history where the store that it starts with is lawful
  pub has_history_fresh : (c : Sight U) → IsFresh c → IsSizedStart c.start
      → lawful c.usage (store_of (opening_of c.start)) → HasHistory lawful allowed c
  has_history_fresh c h sized now =
      let opening = lawful_opening (lawful c.usage) (allowed c.usage) c.start sized now in
      record {
        history = subst (λ (l : List Entry). IsLawful (lawful c.usage) (allowed c.usage) c.start l) (sym h.seen) opening;
        calls = sym h.mine;
      }

  -- the present store is well made
  pub well_made_present : (c : Sight U) → HasHistory lawful allowed c → IsWellMade (present c)
  well_made_present c h = well_made_legal c.start c.seen h.history.legal

  -- what a caller has made is what its own entries create
  pub made_count-present : (c : Sight U) → HasHistory lawful allowed c
      → made_count c.number (present c) ≡ create_count c.mine
  made_count-present c h =
      made_count-legal c.number c.start c.seen h.history.legal ∙ ap create_count h.calls

  -- names stay in the present store
  pub there_goes : (c d : Sight U) (own : List Entry) (n : Name) → Goes lawful allowed c d own
      → IsThere (present c) n → IsThere (present d) n
  there_goes c d own n h there =
      subst (λ (s : PlainStore). IsThere s n) (sym (present-goes c d own h)) (there_stays (present c) h.more n there)

  -- no stamp falls in the present store
  pub stamp_goes : (c d : Sight U) (own : List Entry) (n : Name) (x y : Contents) → Goes lawful allowed c d own
      → contents_of (present c) n ≡ Some x → contents_of (present d) n ≡ Some y → x.stamp ≤ y.stamp
  stamp_goes c d own n x y h was now =
      stamp_never_falls (present c) h.more n x y was (ap (λ (s : PlainStore). contents_of s n) (sym (present-goes c d own h)) ∙ now)

  -- and an object with the same stamp holds the same
  pub same_stamp_goes : (c d : Sight U) (own : List Entry) (n : Name) (x y : Contents) → Goes lawful allowed c d own
      → contents_of (present c) n ≡ Some x → contents_of (present d) n ≡ Some y → y.stamp ≡ x.stamp → y ≡ x
  same_stamp_goes c d own n x y h was now equal =
      same_stamp (present c) h.more n x y was (ap (λ (s : PlainStore). contents_of s n) (sym (present-goes c d own h)) ∙ now) equal
