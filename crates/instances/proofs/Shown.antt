-- What `specs/Shown.antt` states: of the agent's own records, the stretch of the type that is asked for.
use mathlib.Core.Path.{◌∙◌}
use mathlib.Core.List.{append-nil}
use borrow.Author.Tests.{ne_eqb}
use Rattle.copy.specs.Shown.{is_own, is_hidden, source_of, chosen, shown_of}
use Rattle.copy.specs.declared.Choice.TheVariants.{Only}
use Rattle.instances.specs.Shown.{OwnShown}
use Rattle.instances.proofs.Copied.{stretches, owns-copied, none-copied}
use Rattle.instances.proofs.OwnStretches.{records-own}
use Rattle.calls.proofs.Sizes.{made-sized}

pub own-shown : OwnShown
unfolding shown_of source_of is_hidden is_own stretches chosen records-own
own-shown =
    record {
      report = λ s store time m. owns-copied (records-own s time (made-sized s m)) (Only 13) ∙ append-nil _;
      time = λ s store time m. owns-copied (records-own s time (made-sized s m)) (Only 18) ∙ append-nil _;
      groups = λ s store time m. owns-copied (records-own s time (made-sized s m)) (Only 58) ∙ append-nil _;
      images = λ s store time m. owns-copied (records-own s time (made-sized s m)) (Only 75);
      hidden = λ store own. (none-copied (Only 1), (none-copied (Only 2), (none-copied (Only 7), tt)));
      stored =
          λ store own id h.
          let g = h.1.1.1 in
          rw (
            ne_eqb id 1 h.0,
            ne_eqb id 2 h.1.0,
            ne_eqb id 7 h.1.1.0,
            ne_eqb id 13 g.0,
            ne_eqb id 18 g.1.0,
            ne_eqb id 58 g.1.1.0,
            ne_eqb id 75 g.1.1.1.0,
          );
    }
