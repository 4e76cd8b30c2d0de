-- `protobuf::content_at` meets its contract: a law of the definition for each wire type.
use mathlib.Core.Path.{refl}
use native.Mathlib.Omega.{arith}
use Rattle.protobuf.proofs.FieldLaws.{content-number, content-eight, content-bytes, content-four, content-none}
use Rattle.protobuf.proofs.content_at.Goals as goal

pub returns-in-0 : goal.returns-in-0
returns-in-0 c = content-number _ _ _ _ _ c.in-0.is c.varint_at.ensures

pub returns-in-1 : goal.returns-in-1
returns-in-1 c = content-eight _ _ _ _ _ (λ h. omega arith) c.in-1.is c.span_at.ensures

pub returns-in-2 : goal.returns-in-2
returns-in-2 c = content-bytes _ _ _ _ _ (λ h. omega arith) (λ h. omega arith) c.in-2.is c.bytes_at.ensures

pub returns-in-5 : goal.returns-in-5
returns-in-5 c = content-four _ _ _ _ _ (λ h. omega arith) (λ h. omega arith) (λ h. omega arith) c.in-5.is c.span_at-in-5.ensures

pub returns-in_default : goal.returns-in_default
returns-in_default c = content-none _ _ _ _ _ (λ h. omega arith) (λ h. omega arith) (λ h. omega arith) (λ h. omega arith) refl
