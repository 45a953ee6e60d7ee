-- What the callers' trait sees of a caller that has seen more.
use Rattle.std.proofs.Common.{◌≡◌, ℕ, List, [], ◌∷◌, ◌++◌, Option, Some, None, IfSome, sym, ap, ◌∙◌, subst, append-nil, append_assoc}
use Rattle.hm_cells.proofs.Words.{Start, Entry, PlainStore, caller_of, calls_of, opening_of, AreOthers, IsLawful, Sight, IsSameCaller, HasHistory, Goes, listed, seen_after, Begins, come_behind, nothing_more, Tells}
use Rattle.hm_model.proofs.HistoryFacts.{calls_of-append}

module _ {U : Type 0} (lawful : U → PlainStore → Type 0) (allowed : U → PlainStore → Entry → Type 0)
    (c d : Sight U) (caller : IsSameCaller c d) (opened : Begins (opening_of c.start) c.seen)
    (history : HasHistory lawful allowed d) where
  -- what was seen is lawful, by what the caller was before
  lawful_here : (seen : List Entry) → d.seen ≡ seen → IsLawful (lawful c.usage) (allowed c.usage) c.start seen
  lawful_here seen is =
      subst (IsLawful (lawful c.usage) (allowed c.usage) c.start) is
      (subst (λ (u : U). IsLawful (lawful u) (allowed u) c.start d.seen) caller.usage
      (subst (λ (s : Start). IsLawful (lawful d.usage) (allowed d.usage) s d.seen) caller.start
      history.history))

  pub entered : (o : Option Entry) (between : List Entry) → AreOthers c.number between
      → IfSome o (λ e. caller_of e ≡ c.number) → d.seen ≡ seen_after c.seen (c.seen ++ between) o
      → d.mine ≡ c.mine ++ listed o → Tells lawful allowed o c d
  entered None between others by seen mine = (seen, mine ∙ append-nil c.mine)
  entered (Some e) between others by seen mine =
      let is : d.seen ≡ c.seen ++ (between ++ e ∷ []) = seen ∙ append_assoc c.seen between (e ∷ []) in
      record {
        caller = caller;
        own = by;
        between = between;
        others = others;
        seen = is;
        mine = mine;
        come = come_behind (lawful c.usage) (allowed c.usage) c.start c.seen (between ++ e ∷ []) opened
            (lawful_here (c.seen ++ (between ++ e ∷ [])) is);
        history = history;
      }

  -- a caller that has seen more, and made nothing, goes on
  pub goes_on : Begins c.seen d.seen → calls_of c.number c.seen ≡ c.mine → d.mine ≡ c.mine
      → Goes lawful allowed c d []
  goes_on more calls mine =
      let all : calls_of c.number d.seen ≡ c.mine =
      ap (λ (n : ℕ). calls_of n d.seen) (sym caller.number) ∙ (history.calls ∙ mine) in
      record {
        caller = caller;
        more = more.rest;
        seen = more.is;
        mine = mine ∙ sym (append-nil c.mine);
        calls = nothing_more c.mine (calls_of c.number more.rest)
            (ap (λ (l : List Entry). l ++ calls_of c.number more.rest) (sym calls)
            ∙ (sym (calls_of-append c.number c.seen more.rest)
            ∙ (ap (calls_of c.number) (sym more.is) ∙ all)));
        come = come_behind (lawful c.usage) (allowed c.usage) c.start c.seen more.rest opened
            (lawful_here (c.seen ++ more.rest) more.is);
      }
