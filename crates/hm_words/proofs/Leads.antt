-- A walk over words without a fault.
use Rattle.std.proofs.Common.{◌≡◌, ◌∙◌, ap, List, [], ◌∷◌, refl}
use Rattle.std.specs.List.{fold}
use Rattle.clap.specs.Words.{Shape, Text}
use Rattle.clap.specs.Faults.{turn_fault, walk_fault}
use Rattle.clap.specs.Kinds.{or_else}
use Rattle.clap.specs.Walk.{Walk, walked}

-- the words lead from one place of a walk to another, without a fault
pub record Leads (s : Shape) (start : Walk) (words : List Text) (end : Walk) : Type 0 where
  pub faults : walk_fault s [] start words ≡ []
  pub ends : fold (walked s.rules []) start words ≡ end

pub leads_nowhere : (s : Shape) (start : Walk) → Leads s start [] start
unfolding walk_fault
leads_nowhere s start = record { faults = refl; ends = refl }

-- a word more before them
pub leads_on : (s : Shape) (start next end : Walk) (word : Text) (words : List Text)
    → turn_fault s [] start word ≡ []
    → walked s.rules [] start word ≡ next → Leads s next words end
    → Leads s start (word ∷ words) end
unfolding walk_fault
leads_on s start next end word words clean step leads = record {
  faults = ap (λ k. or_else k (walk_fault s [] (walked s.rules [] start word) words)) clean
      ∙ (ap (λ w. walk_fault s [] w words) step ∙ leads.faults);
  ends = ap (λ w. fold (walked s.rules []) w words) step ∙ leads.ends;
}
