-- The words that these proofs speak of, and the lemmas of lower crates that they cite, from one place.
pub use Rattle.std.specs.List.{list_any, find}
pub use Rattle.std.specs.Option.{option_map, option_to_list}
pub use Rattle.std.specs.Prelude.{◌==◌, slice_get, slice_index, unwrap_or, ◌++◌, ◌≡◌, ◌-◌, []}
pub use Rattle.std.proofs.lemmas.Grind.{common_steps}
pub use Rattle.std.proofs.lemmas.Bool.Decides.{eqb_tells, nat_tests}
pub use Rattle.std.proofs.lemmas.List.{length-replicate, length-map, map-set, map-append, set-get_or}
pub use Rattle.std.proofs.lemmas.List.Elements.{Contains-append_left, All-append, All-cons, All-nil, All-set, All-replicate, Contains-push, All-contains_itself, Contains-append_cases, All-contains, Contains-append_right}
pub use Rattle.std.proofs.lemmas.List.Folds.{find-append, list_any-append, Any-from_list_any}
pub use mathlib.Core.Logic.{dite}
pub use mathlib.Core.Option.{some, some-injective, some-ne-none}
pub use native.Mathlib.Decide.{ℕ_discrete}
pub use lib.ListN.{get_elem?}
pub use Rattle.atomic_table.specs.Seated.{TableId}
pub use Rattle.atomic_table.specs.Table.{Me, opening, State, Allows, Splits, Joins, keeps, stepped, Valid, carried_after}
pub use Rattle.atomic_table.specs.declared.shared.Seat.{Seat}
pub use Rattle.hm_shape.specs.Versions.{version_count, version_at, IsAt, IsVersionOf}
pub use Rattle.hm_shape.specs.Words.{word_at, naming_word}
pub use Rattle.hm_shape.specs.declared.shape.Shape.{Shape}
pub use Rattle.hm_shape.specs.declared.version.Version.{Version}
pub use Rattle.hm_model.specs.Effect.{caller_of, Stands}
pub use Rattle.hm_model.specs.History.{opening_of, calls_of, AreOthers, starting_count, IsSizedStart, store_of, side_count}
pub use Rattle.hm_model.specs.Lawful.{IsLawful, UsageLaws, MayMake}
pub use Rattle.hm_model.specs.Sight.{IsFresh, Sight, IsSameCaller, HasHistory, Goes, MayEnter, name_of, SetsRoot, name_at, names_of, root_of}
pub use Rattle.hm_model.specs.Store.{PlainStore, Numbers, IsThere}
pub use Rattle.hm_model.specs.declared.entry.Entry.{Entry}
pub use Rattle.hm_model.specs.declared.object.Name.{Name}
pub use Rattle.hm_model.specs.declared.object.Start.{Start}
pub use Rattle.hm_model.specs.declared.root.Root.{Root}
pub use Rattle.hm_moves.specs.Acts.{listed, publishes, word_of, becomes, field_look, finds, next_version, entry_of}
pub use Rattle.hm_moves.specs.Cycles.{is_version}
pub use Rattle.hm_moves.specs.After.{view, seen_after, heap_after, without, with_held, index_with, part_after, view_after, count_of, view_letting, letting, is_naming, unless_named, unnamed_from, unnamed, written_with}
pub use Rattle.hm_moves.specs.Allowed.{HasRoom, IsWritten, HasHand, MayHold, MayLookInto, MayTake, MayLook, Enabled, IsLawfulMove, IsKnownField, IsKnownName, Turns, done_limit, Reads, IsFirst, Names, Spells, next_name, AreKnown}
pub use Rattle.hm_moves.specs.Chain.{Index, IsPublished, reference_at}
pub use Rattle.hm_moves.specs.Fresh.{common_known, fresh_part, all_known, side_known, fresh_index, fresh_places, IsFreshCore}
pub use Rattle.hm_moves.specs.Good.{Begins, AreApart, PartIsGood, Core, Good, Carries, applied, split, joined, joined_view, longer, spent_view, Depicts, released}
pub use Rattle.hm_moves.specs.Places.{IsFit, Heap, row_of}
pub use Rattle.hm_moves.specs.Told.{Found, IsLink, IsReference, LookFound}
pub use Rattle.hm_moves.specs.declared.moving.Act.{Act}
pub use Rattle.hm_moves.specs.declared.moving.Act.TheVariants.{Looks, Builds, Ticks, Shifts}
pub use Rattle.hm_moves.specs.declared.moving.Build.TheVariants.{StoreOwn, Publish, LinkStore, Shorten}
pub use Rattle.hm_moves.specs.declared.moving.Look.{Look}
pub use Rattle.hm_moves.specs.declared.moving.Look.TheVariants.{LoadStamp, LoadReference, LoadNumber, LoadLink}
pub use Rattle.hm_moves.specs.declared.moving.Move.{Move}
pub use Rattle.hm_moves.specs.declared.part.Known.{Known}
pub use Rattle.hm_moves.specs.declared.part.Part.{Part}
pub use Rattle.hm_moves.specs.declared.part.Site.{Site}
pub use Rattle.hm_moves.specs.declared.part.View.{View}
pub use Rattle.hm_moves.proofs.Enabling.{enabled_lawful}
pub use Rattle.hm_moves.proofs.FreshMachine.{good_fresh}
pub use Rattle.hm_moves.proofs.Fresh.{many, numbered, numbered_at}
pub use Rattle.hm_moves.proofs.Held.{each_some, from_some, contains_behind, contains_first, contains_here, filter_still, held_stays, some_more, names_without, unnamed_was, unnamed_wide, without_held}
pub use Rattle.hm_moves.proofs.Histories.{come_behind, nothing_more, others_only, begins_more, left_begins, lawful_before}
pub use Rattle.hm_moves.proofs.Placed.{published_once, rank_small}
pub use Rattle.hm_moves.proofs.Places.{set_here, at_end, at_later, at_longer, at_set, set_else}
pub use Rattle.hm_moves.proofs.Steps.{good_step}
pub use Rattle.hm_cells.specs.Calls.{IsOwnAt, MayReplySo, Steps, after_in, copied, move_in, own_at, replying, stage_found, IsWhole, Takes, taken, Tells, version_in, IsWholeCopy, MayChange, MayStore, field_of, linked, move_by, stored, turned, after, Meets, rested, MayPublish, drafted, drafted_name, drafted_numbers, drafted_refs, drafted_word, MayWant, wanted, NoteFacts}
pub use Rattle.hm_cells.specs.Facts.{HasFrom, HasScanned, IsListed, MayEnd, own_place, scanned_after, spoils, Facts, Fits, IsAtRest, IsSound, Made, place_name, sight_of, first_idle, is_kept, find_version, IsAmong, IsSure, IsLookable, known_at, names_at, lookable, nothing_known, with_root, without_first, IsHeldAt}
pub use Rattle.hm_cells.specs.Owns.{IsGround, IsTaking, cursor_at, cursor_passing, first_of, first_to, found_from, fresh_own, has_all, is_that, knows_from, loading, masking, moving_to, old_count, own_of, own_version, padded, passing, placed_in, scans_in, shift_as, shift_to, shifted_as, shifting, stops_at, unmasked, watch_of}
pub use Rattle.hm_cells.specs.Plans.{planned, planned_act, planned_scan}
pub use Rattle.hm_cells.specs.declared.own.Own.{Own}
pub use Rattle.hm_cells.specs.declared.own.Watch.{Watch}
pub use Rattle.hm_cells.specs.declared.plan.Plan.{Plan}
pub use Rattle.hm_cells.specs.Grips.{Gripped, handing, site_of}
pub use Rattle.hm_cells.specs.Making.{back, first_roots, fresh_pass, fresh_passes, front, newcomer, newcomers, first_used, first_view}
pub use Rattle.hm_cells.specs.Shows.{IsSeated, caller_in, facts_of, knowledge, Learnt, Exchanges, IsReady, Learns, some_move, Loads, Shows, Looked, LookTells, Stores, looking, noted, met, spent, noting, first_letting}
pub use Rattle.hm_cells.specs.declared.knowledge.Knowledge.{Knowledge}
pub use Rattle.hm_cells.specs.declared.want.Want.{Want}
pub use Rattle.hm_cells.specs.declared.want.Want.TheVariants.{Nothing, Fetch, Store, StoreIf}
