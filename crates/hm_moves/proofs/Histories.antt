-- Histories, their beginnings, and one entry more.
use Rattle.std.proofs.Common.{◌≡◌, ◌≢◌, ◌<◌, ◌≤◌, ℕ, eq-eqb, ne_eqb, true, false, List, [], ◌∷◌, ◌++◌, length, nat_lt, Option, Some, None, IfSome, if◌then◌else◌, refl, sym, ap, ◌∙◌, subst, append_assoc, append-nil, arith}
use Rattle.hm_moves.proofs.Words.{nat_tests, All-nil, All-cons, All-head, All-tail, Start, Entry, PlainStore, caller_of, Stands, store_after, store_of, AllStand, calls_of, AreOthers, opening_of, MayCome, AllCome, IsLawful, UsageLaws, MayMake, store_after-append, calls_of-append, all_stand_parts, all_come_parts, lawful_more, listed, Begins, AreBelow, longer, HasCalls}

-- the entry, if there is one, is by this caller
abbrev pub IsBy : ℕ → Option Entry → Type 0
IsBy q o = IfSome o (λ e. caller_of e ≡ q)

calls_own : (q : ℕ) (o : Option Entry) → IsBy q o → calls_of q (listed o) ≡ listed o
calls_own q None h = refl
calls_own q (Some e) h = rw (eq-eqb (caller_of e) q h) refl

calls_others : (p q : ℕ) (o : Option Entry) → IsBy p o → p ≢ q → calls_of q (listed o) ≡ []
calls_others p q None h n = refl
calls_others p q (Some e) h n = rw (ne_eqb (caller_of e) q (λ is. n (sym h ∙ is))) refl

-- the calls of the caller that makes the entry
pub calls_after : (q : ℕ) (h m : List Entry) (o : Option Entry) → IsBy q o → calls_of q h ≡ m
    → calls_of q (h ++ listed o) ≡ m ++ listed o
calls_after q h m o by is = let a = calls_of-append q h (listed o) in let b = calls_own q o by in cc

-- and of another
pub calls_beside : (p q : ℕ) (h m : List Entry) (o : Option Entry) → IsBy p o → p ≢ q → calls_of q h
    ≡ m
    → calls_of q (h ++ listed o) ≡ m
calls_beside p q h m o by n is =
    let a = calls_of-append q h (listed o) in let b = calls_others p q o by n in
    let c = append-nil (calls_of q h) in cc

-- a longer list begins so too
pub begins_more : (xs ys zs : List Entry) → Begins xs ys → Begins xs (ys ++ zs)
begins_more xs ys zs b = record {
  rest = b.rest ++ zs;
  is = ap (λ (l : List Entry). l ++ zs) b.is ∙ append_assoc xs b.rest zs;
}

-- a beginning of a beginning
pub begins_on : (xs ys zs : List Entry) → Begins xs ys → Begins ys zs → Begins xs zs
begins_on xs ys zs a b = subst (λ (l : List Entry). Begins xs l) (sym b.is)
    (begins_more xs ys b.rest a)

-- a list begins with itself
pub begins_self : (xs : List Entry) → Begins xs xs
begins_self xs = record { rest = []; is = sym (append-nil xs) }

abbrev Below : ℕ → Entry → Type 0
Below n e = caller_of e < n

-- lists of callers below a number
pub below-append : (n : ℕ) (xs ys : List Entry) → AreBelow n xs → AreBelow n ys
    → AreBelow n (xs ++ ys)
below-append n [] ys h k = k
below-append n (x ∷ xs) ys h k =
    All-cons (Below n) x (xs ++ ys) (All-head (Below n) x xs h)
    (below-append n xs ys (All-tail (Below n) x xs h) k)

below_one : (n q : ℕ) (o : Option Entry) → IsBy q o → q < n → AreBelow n (listed o)
below_one n q None h small = All-nil (Below n)
below_one n q (Some e) h small =
    All-cons (Below n) e [] (subst (λ (i : ℕ). i < n) (sym h) small) (All-nil (Below n))

-- all callers stay below
pub below_more : (n q : ℕ) (h : List Entry) (o : Option Entry) → IsBy q o → q < n → AreBelow n h
    → AreBelow n (h ++ listed o)
below_more n q h o by small all = below-append n h (listed o) all (below_one n q o by small)

-- and so in what comes behind a beginning
pub below_later : (n : ℕ) (xs ys : List Entry) → AreBelow n (xs ++ ys) → AreBelow n ys
below_later n [] ys h = h
below_later n (x ∷ xs) ys h = below_later n xs ys (All-tail (Below n) x (xs ++ ys) h)

-- a history of n callers of which none made a call is empty
pub none_made : (n : ℕ) (es : List Entry) → AreBelow n es → ((q : ℕ) → q < n → calls_of q es ≡ [])
    → es ≡ []
none_made n [] h none = refl
none_made n (e ∷ es) h none =
    let here : calls_of (caller_of e) (e ∷ es) ≡ [] = none (caller_of e)
    (All-head (Below n) e es h) in
    let is : (e ∷ calls_of (caller_of e) es) ≡ [] = rw (eq-eqb (caller_of e) (caller_of e) refl) at
    here in cc

-- a list that another behind it does not lengthen
pub nothing_more : (xs ys : List Entry) → xs ++ ys ≡ xs → ys ≡ []
nothing_more [] ys h = h
nothing_more (x ∷ xs) ys h = nothing_more xs ys (cc)

-- what comes behind a beginning that has all calls of the caller is of others
pub others_only : (q : ℕ) (seen h m rest : List Entry) → h ≡ seen ++ rest → calls_of q h ≡ m
    → calls_of q seen ≡ m → AreOthers q rest
others_only q seen h m rest is all here =
    let a = calls_of-append q seen rest in nothing_more m (calls_of q rest) (cc)

first_nothing : (xs ys : List Entry) → xs ++ ys ≡ [] → xs ≡ []
first_nothing [] ys h = refl
first_nothing (x ∷ xs) ys h = cc

-- of two beginnings of one list, the shorter begins the longer
begins_shorter : (xs ys h r s : List Entry) → h ≡ xs ++ r → h ≡ ys ++ s → length xs ≤ length ys
    → Begins xs ys
begins_shorter [] ys h r s e f le = record { rest = ys; is = refl }
begins_shorter (x ∷ xs) [] h r s e f le = absurd (omega arith)
begins_shorter (x ∷ xs) (y ∷ ys) h r s e f le =
    let both : x ∷ (xs ++ r) ≡ y ∷ (ys ++ s) = sym e ∙ f in
    let head : x ≡ y = cc in
    let tail : xs ++ r ≡ ys ++ s = cc in
    let b = begins_shorter xs ys (xs ++ r) r s refl tail (omega arith) in
    record { rest = b.rest; is = λ i. sym head i ∷ b.is i }

-- the longer of two beginnings is one
pub begins_longer : (xs ys h : List Entry) → Begins xs h → Begins ys h → Begins (longer xs ys) h
begins_longer xs ys h b d =
    elim (nat_lt (length xs) (length ys)) as (λ t. Begins (if t then ys else xs) h)
    [ true ↦ d | false ↦ b ]

-- either of two beginnings of one history begins the longer of them
pub left_begins : (xs ys h : List Entry) → Begins xs h → Begins ys h → Begins xs (longer xs ys)
left_begins xs ys h b d =
    grind (arith, nat_tests, begins_shorter xs ys h b.rest d.rest b.is d.is, begins_self xs)

pub right_begins : (xs ys h : List Entry) → Begins xs h → Begins ys h → Begins ys (longer xs ys)
right_begins xs ys h b d =
    grind (arith, nat_tests, begins_shorter ys xs h d.rest b.rest d.is b.is, begins_self ys)

-- what lies between a beginning that has all calls of a caller and the whole has them too
pub calls_between : (q : ℕ) (xs ys h m : List Entry) → Begins xs ys → Begins ys h → calls_of q h ≡ m
    → calls_of q xs ≡ m → calls_of q ys ≡ m
calls_between q xs ys h m a d all here =
    let A : List Entry = calls_of q a.rest in
    let D : List Entry = calls_of q d.rest in
    let b = calls_of-append q xs a.rest in
    let c = calls_of-append q ys d.rest in
    let e = append_assoc m A D in
    let nothing = first_nothing A D (nothing_more m (A ++ D) (cc)) in let f = append-nil m in cc

-- two ways to begin one list
same_start : (a x y : List Entry) → a ++ x ≡ a ++ y → x ≡ y
same_start [] x y h = h
same_start (e ∷ a) x y h = same_start a x y (cc)

module _ (lawful : PlainStore → Type 0) (allowed : PlainStore → Entry → Type 0) where
  -- the store before entries that come, and behind which a lawful one is left, is lawful
  lawful_first : (s : PlainStore) (es : List Entry) → AllCome lawful allowed s es
      → lawful (store_after s es)
      → lawful s
  lawful_first s [] h now = now
  lawful_first s (e ∷ es) h now = h.0.store

  -- the entries behind a beginning that has the opening come
  pub come_behind : (start : Start) (seen rest : List Entry) → Begins (opening_of start) seen
      → IsLawful lawful allowed start (seen ++ rest) → AllCome lawful allowed (store_of seen) rest
  come_behind start seen rest b h =
      let opening : List Entry = opening_of start in
      let is : h.legal.rest ≡ b.rest ++ rest = same_start opening h.legal.rest (b.rest ++ rest)
      (let a = h.legal.begins in let e = b.is in let c = append_assoc opening b.rest rest in cc) in
      let all : AllCome lawful allowed (store_of opening) (b.rest ++ rest) =
      subst (λ (l : List Entry). AllCome lawful allowed (store_of opening) l) is h.come in
      let at : store_of seen ≡ store_after (store_of opening) b.rest = ap store_of b.is
      ∙ store_after-append [] opening b.rest in
      subst (λ (s : PlainStore). AllCome lawful allowed s rest) (sym at)
      (all_come_parts lawful allowed (store_of opening) b.rest rest all).1

  -- a beginning that has the opening is lawful
  pub lawful_before : (start : Start) (seen h : List Entry) → Begins (opening_of start) seen
      → Begins seen h
      → IsLawful lawful allowed start h → IsLawful lawful allowed start seen
  lawful_before start seen h b d k =
      let opening : List Entry = opening_of start in
      let is : k.legal.rest ≡ b.rest ++ d.rest = same_start opening k.legal.rest (b.rest ++ d.rest)
      (let a = k.legal.begins in let e = d.is in let f = b.is in let c = append_assoc opening b.rest
      d.rest in cc) in
      let come : AllCome lawful allowed (store_of opening) (b.rest ++ d.rest) =
      subst (λ (l : List Entry). AllCome lawful allowed (store_of opening) l) is k.come in
      let stand : AllStand [] (seen ++ d.rest) = subst (AllStand []) d.is k.legal.stand in
      let now : lawful (store_after (store_of seen) d.rest) = subst lawful
      (ap store_of d.is ∙ store_after-append [] seen d.rest) k.now in
      let behind = come_behind start seen d.rest b (subst (IsLawful lawful allowed start) d.is k) in
      record {
        legal = record {
          rest = b.rest;
          begins = b.is;
          stand = (all_stand_parts [] seen d.rest stand).0;
        };
        come = (all_come_parts lawful allowed (store_of opening) b.rest d.rest come).0;
        now = lawful_first (store_of seen) d.rest behind now;
      }

  -- an entry that its caller may make, and that stands in the present store, may come
  pub come_now : (start : Start) (q : ℕ) (mine h seen : List Entry) (e : Entry) → Begins seen h
      → HasCalls start q mine h seen → IsLawful lawful allowed start h
      → MayMake lawful allowed seen q e → Stands (store_of h) e → MayCome lawful allowed
      (store_of h) e
  come_now start q mine h seen e b calls good may stands =
      let here : store_of h ≡ store_after (store_of seen) b.rest = ap store_of b.is
      ∙ store_after-append [] seen b.rest in
      record {
        store = good.now;
        stands = stands;
        entry = may (store_of h)
            record {
              between = b.rest;
              others = others_only q seen h mine b.rest b.is calls.all calls.seen;
              come = come_behind start seen b.rest calls.opened
                  (subst (IsLawful lawful allowed start) b.is good);
              here = here;
              store = good.now;
            }
            stands;
      }

  -- the history with that entry is lawful
  pub lawful_with : UsageLaws lawful allowed → (start : Start) (h : List Entry) (e : Entry)
      → IsLawful lawful allowed start h → MayCome lawful allowed (store_of h) e
      → IsLawful lawful allowed start (h ++ e ∷ [])
  lawful_with laws start h e good may = lawful_more lawful allowed laws start h (e ∷ []) good
      (may, tt)
