-- What `specs/Statements.antt` states: well-formed texts are exactly the encodings of lists of scalar values.
use mathlib.Core.Path.{sym, ap, ◌∙◌}
use Rattle.utf8.specs.Utf8.{is_utf8}
use Rattle.utf8.specs.Statements.{Utf8Encodes}
use Rattle.utf8.proofs.EncodeLaws.{encoded-passed, text-encoded, decoded, decoded-all}

pub utf8-encodes : Utf8Encodes
unfolding is_utf8
utf8-encodes =
    record {
      encodings = encoded-passed;
      texts = text-encoded;
      once = λ cs ds e. sym (decoded-all cs) ∙ ap (decoded 0 0) e ∙ decoded-all ds;
    }
