-- Each option has a number of 32 bits.
use Rattle.clap.specs.Words.{found_of, rows_of}
use Rattle.hm_words.specs.Commands.{high, low, max_quantity, versions}
use Rattle.hm_words.proofs.Numbers.{setting_fits}
use Rattle.hm_words.proofs.read.settings_of.Goals as goal

pub number_or-max_quantity-requires : goal.number_or-max_quantity-requires
number_or-max_quantity-requires c = setting_fits (rows_of (found_of c.args.matches.now)) max_quantity
    (c.requires max_quantity)

pub number_or-low-requires : goal.number_or-low-requires
number_or-low-requires c = setting_fits (rows_of (found_of c.args.matches.now)) low
    (c.requires low)

pub number_or-high-requires : goal.number_or-high-requires
number_or-high-requires c = setting_fits (rows_of (found_of c.args.matches.now)) high
    (c.requires high)

pub number_or-requires : goal.number_or-requires
number_or-requires c = setting_fits (rows_of (found_of c.args.matches.now)) versions
    (c.requires versions)
