-- What holds of the matches of a parse.
use Rattle.std.proofs.Common.{◌≡◌, ◌∙◌, true, false, inl, inr}
use Rattle.clap.specs.Words.{BuildsOrBreaks, BuildsTo, IsParsed, app_of, found_of, has_subcommand, is_broken, is_simple}
use Rattle.clap.specs.declared.builder.command.Command.{Command}
use Rattle.clap.specs.declared.builder.command.Command.TheViews.{out-Command}
use Rattle.clap.specs.declared.parser.matches.ArgMatches.{ArgMatches}
use Rattle.clap.proofs.SimpleLemmas.{plain_fields}
use Rattle.clap.proofs.WalkLemmas.{both}
use Rattle.hm_words.specs.Reading.{IsParsedBy}
use Rattle.hm_words.proofs.read.parse.Goals as goal

-- a simple command that a parse did not break is as it was made or as it is built
parsed_by : (old new : Command) (m : ArgMatches) → is_simple (app_of old) ≡ true → BuildsTo old new
    → ((out-Command new).has_globals ≡ false → IsParsed new (found_of m) (has_subcommand m))
    → BuildsOrBreaks old new
    → (is_broken new ≡ true → ⊥) → IsParsedBy (app_of old) m
parsed_by old new m simple builds parsed after whole =
    let buildable = (both _ _ simple).0 in
    let plain = (both _ _ (both _ _ buildable).0).0 in
    record {
      by = new;
      is = elim after [
        | inl broken ↦ absurd (whole broken)
        | inr kept ↦ elim kept.2 [ inl same ↦ inl same | inr made ↦ inr (made buildable) ]
      ];
      parsed = parsed (builds.globals ∙ (plain_fields old plain).globals);
    }

pub returns-clause-parsed : goal.returns-clause-parsed
returns-clause-parsed c =
    let ok = c.in_ok-try_get_matches_from_mut.ensures.ok in
    parsed_by c.args.command c.try_get_matches_from_mut.new.self
    c.in_ok-try_get_matches_from_mut.field-0 c.requires.simple ok.0 ok.1
    c.in_ok-try_get_matches_from_mut.ensures.after c.in_ok-try_get_matches_from_mut.ensures.fails
