-- What the callers of a heap with a book agree to leaves a lawful store.
use Rattle.std.proofs.Common.{◌≡◌, ◌≢◌, ℕ, ◌+◌, ◌<◌, ◌≤◌, false, List, length, All, AllPairs, Some, None, sym, ap, ◌∙◌, subst, arith, [], ◌∷◌, ◌++◌}
use Rattle.std.specs.Prelude.{slice_index}
use Rattle.std.specs.Option.{option_map}
use Rattle.std.proofs.lemmas.List.Elements.{All-weaker}
use Rattle.hm_model.specs.declared.object.Name.{Name}
use Rattle.hm_model.specs.declared.object.Contents.{Contents}
use Rattle.hm_model.specs.declared.object.Field.{Field}
use Rattle.hm_model.specs.declared.object.Field.TheVariants.{Number, Refer}
use Rattle.hm_model.specs.declared.entry.Tried.TheVariants.{Stored, Changed}
use Rattle.hm_model.specs.declared.entry.Entry.{Entry}
use Rattle.hm_model.specs.declared.entry.Entry.TheVariants.{Create, Fetch, Store, StoreIf}
use Rattle.hm_model.specs.Store.{Numbers, Refs, PlainStore, contents_of, with_changed}
use Rattle.hm_model.specs.Effect.{effect_of, new_contents, with_field, with_all, Stands}
use Rattle.hm_model.specs.Lawful.{MayCome, UsageLaws, NodeLaws, KeepsNodes}
use Rattle.hm_model.specs.Sight.{name_at}
use Rattle.hm_model.proofs.StoreFacts.{contents_of-push, contents_of-changed, contents_of-changed_other}
use Rattle.hm_model.proofs.EffectFacts.{there_after}
use Rattle.hm_list.proofs.ListFacts.{list_kept}
use Rattle.hm_book.specs.declared.book.Resting.{Resting}
use Rattle.hm_book.specs.declared.limits.Limits.{Limits}
use Rattle.hm_book.specs.Effect.{Effect, has_name}
use Rattle.hm_book.specs.Run.{BookState}
use Rattle.hm_book.specs.Sound.{IsSound}
use Rattle.hm_book.proofs.Apart.{names_after}
use Rattle.hm_book.proofs.SoundSteps.{IsSound-state_after}
use Rattle.hm_agreement.specs.Cells.{board_name, book_name, IsNode, IsInRange, bids_of, asks_of, ids_of, ShowsBook}
use Rattle.hm_agreement.specs.Agreed.{IsUncrossed, HasBook, IsLawfulBook, AppliesOrder, IsAllowedBook}
use Rattle.hm_agreement.proofs.Uncrossed.{uncrossed_after}

-- the board is not the common object
pub board_other : board_name ≢ book_name
board_other e = let count : ◌≡◌ {A = ℕ} 0 1 = ap (λ (n : Name). n.count) e in absurd (omega arith)

-- a book is shown where nodes are kept
pub shows_kept : (s t : PlainStore) (common : Contents) (book : List Resting) → KeepsNodes IsNode s t
    → ShowsBook s common book → ShowsBook t common book
shows_kept s t common book k h = record {
  bids = list_kept IsNode s t k (name_at common.refs 0) (bids_of book) h.bids;
  asks = list_kept IsNode s t k (name_at common.refs 1) (asks_of book) h.asks;
  ids = list_kept IsNode s t k (name_at common.refs 2) (ids_of book) h.ids;
  resting = h.resting;
  ranges = h.ranges;
}

-- so is a book that agrees with the numbers
pub has_kept : (s t : PlainStore) (common : Contents) (book : List Resting) → KeepsNodes IsNode s t
    → HasBook s common book → HasBook t common book
has_kept s t common book k h = record {
  shows = shows_kept s t common book k h.shows;
  rising = h.rising;
  applied = h.applied;
  ids = h.ids;
  uncrossed = h.uncrossed;
  few = h.few;
}

node_at : (s t : PlainStore) (n : Name) → IsNode s n → IsNode t n
node_at s t n h = record { not_board = h.not_board; not_book = h.not_book }

-- a create keeps nodes
pub create_keeps : (s : PlainStore) (p : Name × Contents) → KeepsNodes IsNode s (s ++ p ∷ [])
create_keeps s p = record {
  nodes = λ n x is here. node_at s (s ++ p ∷ []) n is;
  contents = λ n x is here. contents_of-push s p n x here;
}

-- so does a change of the board
pub board_keeps : (f : Contents → Contents) (s : PlainStore) → KeepsNodes IsNode s (with_changed f board_name s)
board_keeps f s = record {
  nodes = λ n x is here. node_at s (with_changed f board_name s) n is;
  contents = λ n x is here. contents_of-changed_other f board_name n s (λ e. is.not_board (sym e)) ∙ here;
}

-- and of the common object
pub book_keeps : (f : Contents → Contents) (s : PlainStore) → KeepsNodes IsNode s (with_changed f book_name s)
book_keeps f s = record {
  nodes = λ n x is here. node_at s (with_changed f book_name s) n is;
  contents = λ n x is here. contents_of-changed_other f book_name n s (λ e. is.not_book (sym e)) ∙ here;
}

-- a lawful store stays lawful with one object more
pub lawful_create : (s : PlainStore) (q : ℕ) (n : Name) (refs : Refs) (numbers : Numbers) → IsLawfulBook s
    → IsLawfulBook (effect_of s (Create q n refs numbers))
lawful_create s q n refs numbers h =
    let e : Entry = Create q n refs numbers in
    let p : Name × Contents = (n, new_contents refs numbers) in
    record {
      common = h.common;
      there = contents_of-push s p book_name h.common h.there;
      board = h.board;
      board_there = there_after s e board_name h.board_there;
      stamp = h.stamp;
      book = h.book;
      has = has_kept s (s ++ p ∷ []) h.common h.book (create_keeps s p) h.has;
    }

-- and with a change of the board
pub lawful_board : (s : PlainStore) (q : ℕ) (n : Name) (field : Field) → n ≡ board_name → IsLawfulBook s
    → IsLawfulBook (effect_of s (Store q n field))
lawful_board s q n field is h =
    subst (λ (m : Name). IsLawfulBook (effect_of s (Store q m field))) (sym is)
    record {
      common = h.common;
      there = contents_of-changed_other (with_field field) board_name book_name s board_other ∙ h.there;
      board = h.board;
      board_there = there_after s (Store q board_name field) board_name h.board_there;
      stamp = h.stamp;
      book = h.book;
      has = has_kept s (with_changed (with_field field) board_name s) h.common h.book (board_keeps (with_field field) s) h.has;
    }

-- a common object that is replaced has the new contents
pub replaced_there : (s : PlainStore) (q : ℕ) (n : Name) (stamp : ℕ) (refs : Refs) (numbers : Numbers) → n ≡ book_name
    → Stands s (StoreIf q n stamp refs numbers Stored)
    → contents_of (with_changed (with_all refs numbers) book_name s) book_name
    ≡ Some record { stamp = stamp + 1; refs = refs; numbers = numbers }
replaced_there s q n stamp refs numbers is stands =
    let make : ℕ → Contents = λ k. record { stamp = k + 1; refs = refs; numbers = numbers } in
    let was : contents_of s book_name ≡ Some stands.contents = subst (λ (m : Name). contents_of s m ≡ Some stands.contents) is stands.there in
    contents_of-changed (with_all refs numbers) book_name s
    ∙ (ap (option_map (with_all refs numbers)) was ∙ ap (λ (k : ℕ). Some (make k)) stands.answers)

-- and where its common object is replaced by contents that have a book
pub lawful_replaced : (s : PlainStore) (q : ℕ) (n : Name) (stamp : ℕ) (refs : Refs) (numbers : Numbers)
    (book : List Resting) → n ≡ book_name → IsLawfulBook s → Stands s (StoreIf q n stamp refs numbers Stored)
    → slice_index numbers 0 ≡ stamp + 1 → name_at refs 3 ≡ Some board_name
    → HasBook s record { stamp = stamp + 1; refs = refs; numbers = numbers } book
    → IsLawfulBook (effect_of s (StoreIf q n stamp refs numbers Stored))
lawful_replaced s q n stamp refs numbers book is h stands root board has =
    let t : PlainStore = with_changed (with_all refs numbers) book_name s in
    let next : Contents = record { stamp = stamp + 1; refs = refs; numbers = numbers } in
    subst (λ (m : Name). IsLawfulBook (effect_of s (StoreIf q m stamp refs numbers Stored))) (sym is)
    record {
      common = next;
      there = replaced_there s q n stamp refs numbers is stands;
      board = board;
      board_there = there_after s (StoreIf q book_name stamp refs numbers Stored) board_name h.board_there;
      stamp = root;
      book = book;
      has = has_kept s t next book (book_keeps (with_all refs numbers) s) has;
    }

-- an order that is applied to a sound book leaves one, as far as root numbers and counts go
pub applied_sound : (limits : Limits) (lengths : List ℕ) (s : PlainStore) (q stamp : ℕ) (refs : Refs) (numbers : Numbers)
    → (a : AppliesOrder limits s q stamp refs numbers) → slice_index a.common.numbers 0 ≡ stamp
    → IsSound (record { book = a.effect.book; applied = stamp + 1; fills = slice_index a.common.numbers 9 + length a.effect.fills })
applied_sound limits lengths s q stamp refs numbers a root =
    let before : BookState = record { book = a.book; applied = stamp; fills = slice_index a.common.numbers 9 } in
    let sound : IsSound before = record {
      rising = a.before.rising;
      applied = subst (λ (k : ℕ). All (λ r. r.root ≤ k) a.book) root a.before.applied;
      some = All-weaker IsInRange (λ r. 0 < r.quantity) (λ r h. h.quantity.some) a.book a.before.shows.ranges;
      few = subst (λ (k : ℕ). slice_index a.common.numbers 9 + length a.book ≤ k) root a.before.few;
    } in
    subst (λ (e : Effect). IsSound (record { book = e.book; applied = stamp + 1; fills = slice_index a.common.numbers 9 + length e.fills })) (sym a.made)
    (IsSound-state_after limits before a.order sound)

-- what an order makes of a book has no name twice and no crossed orders
pub applied_apart : (limits : Limits) (lengths : List ℕ) (s : PlainStore) (q stamp : ℕ) (refs : Refs) (numbers : Numbers)
    → (a : AppliesOrder limits s q stamp refs numbers)
    → AllPairs (λ x y. has_name x.file x.id y ≡ false) a.effect.book × IsUncrossed a.effect.book
applied_apart limits lengths s q stamp refs numbers a =
    let fills = slice_index a.common.numbers 9 in (
      subst (λ (e : Effect). AllPairs (λ x y. has_name x.file x.id y ≡ false) e.book) (sym a.made)
          (names_after limits a.order (stamp + 1) fills a.book a.before.ids),
      subst (λ (e : Effect). IsUncrossed e.book) (sym a.made)
          (uncrossed_after limits a.order (stamp + 1) fills a.book a.before.rising a.before.uncrossed),
    )

-- the stamp of a stored order counts the orders before it
pub applied_root : (limits : Limits) (lengths : List ℕ) (s : PlainStore) (q : ℕ) (n : Name) (stamp : ℕ) (refs : Refs) (numbers : Numbers)
    → (h : MayCome IsLawfulBook (IsAllowedBook limits lengths) s (StoreIf q n stamp refs numbers Stored))
    → slice_index (h.entry.1).common.numbers 0 ≡ stamp
applied_root limits lengths s q n stamp refs numbers h =
    let a = h.entry.1 in
    let l = h.store in
    let was : contents_of s book_name ≡ Some h.stands.contents = subst (λ (m : Name). contents_of s m ≡ Some h.stands.contents) h.entry.0 h.stands.there in
    let same : h.stands.contents ≡ l.common = cc (was, l.there) in
    let known : a.common ≡ l.common = cc (a.there, l.there) in
    ap (λ (x : Contents). slice_index x.numbers 0) known ∙ (l.stamp ∙ (sym (ap (λ (x : Contents). x.stamp) same) ∙ h.stands.answers))

-- its contents have the book that it leaves
pub applied_has : (limits : Limits) (lengths : List ℕ) (s : PlainStore) (q : ℕ) (n : Name) (stamp : ℕ) (refs : Refs) (numbers : Numbers)
    → (h : MayCome IsLawfulBook (IsAllowedBook limits lengths) s (StoreIf q n stamp refs numbers Stored))
    → HasBook s record { stamp = stamp + 1; refs = refs; numbers = numbers } (h.entry.1).effect.book
applied_has limits lengths s q n stamp refs numbers h =
    let a = h.entry.1 in
    let sound = applied_sound limits lengths s q stamp refs numbers a (applied_root limits lengths s q n stamp refs numbers h) in
    let more = applied_apart limits lengths s q stamp refs numbers a in
    record {
      shows = a.after;
      rising = sound.rising;
      applied = subst (λ (k : ℕ). All (λ r. r.root ≤ k) a.effect.book) (sym a.root) sound.applied;
      ids = more.0;
      uncrossed = more.1;
      few = subst (λ (k : ℕ). slice_index numbers 9 + length a.effect.book ≤ k) (sym a.root)
          (subst (λ (k : ℕ). k + length a.effect.book ≤ stamp + 1) (sym a.fills) sound.few);
    }

-- so a stored order leaves a lawful store
pub lawful_applied : (limits : Limits) (lengths : List ℕ) (s : PlainStore) (q : ℕ) (n : Name) (stamp : ℕ) (refs : Refs) (numbers : Numbers)
    → MayCome IsLawfulBook (IsAllowedBook limits lengths) s (StoreIf q n stamp refs numbers Stored)
    → IsLawfulBook (effect_of s (StoreIf q n stamp refs numbers Stored))
lawful_applied limits lengths s q n stamp refs numbers h =
    lawful_replaced s q n stamp refs numbers (h.entry.1).effect.book h.entry.0 h.store h.stands (h.entry.1).root (h.entry.1).board
    (applied_has limits lengths s q n stamp refs numbers h)

-- the laws of nodes
pub book_node_laws : (limits : Limits) (lengths : List ℕ) → NodeLaws IsLawfulBook (IsAllowedBook limits lengths) IsNode
book_node_laws limits lengths = record {
  creates = λ s q n refs numbers lawful stands. tt;
  created = λ s q n refs numbers lawful stands. record {
    not_board = λ e. let none : contents_of s board_name ≡ None = subst (λ (m : Name). contents_of s m ≡ None) e stands.fresh in let there = lawful.board_there in absurd (cc);
    not_book = λ e. let none : contents_of s book_name ≡ None = subst (λ (m : Name). contents_of s m ≡ None) e stands.fresh in let there = lawful.there in absurd (cc);
  };
  stays = λ s e n comes is. node_at s (effect_of s e) n is;
  never_stored = λ s q n field comes is. not_stored s q n field comes.entry is;
  never_replaced = λ s q n stamp refs numbers comes is. is.not_book comes.entry.0;
}
  where
    not_stored : (s : PlainStore) (q : ℕ) (n : Name) (field : Field) → IsAllowedBook limits lengths s (Store q n field)
        → IsNode s n → ⊥
    not_stored s q n (Number i value) h is = is.not_board h.0
    not_stored s q n (Refer i value) h is = h

-- an allowed entry leaves a lawful store
pub lawful_after : (limits : Limits) (lengths : List ℕ) (s : PlainStore) (e : Entry) → MayCome IsLawfulBook (IsAllowedBook limits lengths) s e
    → IsLawfulBook (effect_of s e)
lawful_after limits lengths s (Create q n refs numbers) h = lawful_create s q n refs numbers h.store
lawful_after limits lengths s (Fetch q n answer) h = h.store
lawful_after limits lengths s (Store q n (Number i value)) h = lawful_board s q n (Number i value) h.entry.0 h.store
lawful_after limits lengths s (Store q n (Refer i value)) h = absurd h.entry
lawful_after limits lengths s (StoreIf q n stamp refs numbers Stored) h =
    lawful_applied limits lengths s q n stamp refs numbers h
lawful_after limits lengths s (StoreIf q n stamp refs numbers (Changed found)) h = h.store

-- the laws of a usage
pub book_laws : (limits : Limits) (lengths : List ℕ) → UsageLaws IsLawfulBook (IsAllowedBook limits lengths)
book_laws limits lengths = record {
  leaves = λ s e h. lawful_after limits lengths s e h;
  fetch = λ s q n x lawful stands. tt;
  changed = λ s q n stamp refs numbers found lawful stands. tt;
}
