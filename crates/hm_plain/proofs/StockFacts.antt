-- What a store makes of the table of objects.
use Rattle.std.proofs.Common.{◌≡◌, ℕ, ◌+◌, ◌-◌, ◌<◌, List, map, length, slice_set, get_or, refl, sym, ap, ◌∙◌, subst, arith}
use Rattle.std.proofs.lemmas.Option.{slice_get-map, slice_get_read}
use Rattle.std.proofs.lemmas.List.{map-set, length-map}
use Rattle.std.specs.Option.{option_map}
use Rattle.hm_model.specs.declared.object.Contents.{Contents}
use Rattle.hm_plain.specs.declared.object.Object.{Object}
use Rattle.hm_plain.specs.Calls.{contents_of_object}
use Rattle.hm_plain.specs.Stocks.{Stock, Changes}

-- the table as contracts see it
abbrev pub stock_of : List Object → ℕ → ℕ → Stock
stock_of items used room = record { contents = map contents_of_object items; used = used; room = room }

-- one object holds something else, and one version is taken
pub changes_one : (items : List Object) (used room k : ℕ) (old new : Object) (f : Contents → Contents) (s : Stock) → stock_of items used room ≡ s → k < length s.contents → 0 < s.room
    → old ≡ get_or items k old → contents_of_object new ≡ f (contents_of_object old) → Changes s (stock_of (slice_set items k new) (used + 1) (room - 1)) k f
changes_one items used room k old new f s view small some read is =
    let within : k < length (map contents_of_object items) = subst (λ (t : Stock). k < length t.contents) (sym view) small in
    let left : 0 < room = subst (λ (t : Stock). 0 < t.room) (sym view) some in
    subst (λ (t : Stock). Changes t (stock_of (slice_set items k new) (used + 1) (room - 1)) k f) view record {
      was = contents_of_object old;
      held = slice_get-map contents_of_object items k ∙ ap (option_map contents_of_object) (slice_get_read items (length items) k old refl (omega (arith, length-map items contents_of_object)) read);
      takes = record {
        contents_are = map-set contents_of_object items k new ∙ ap (slice_set (map contents_of_object items) k) is;
        used = refl;
        room = omega arith;
      };
    }
