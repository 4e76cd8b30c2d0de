-- `step::run_record` meets its contract: the type tells what a record does.
use Rattle.step.proofs.Steps.{step-6, step-65, step-67, step-68, step-69, step-70, step_other}
use native.Mathlib.Omega.{arith}
use Rattle.step.proofs.run_record.Goals as goal

pub returns-in-6 : goal.returns-in-6
returns-in-6 c =
    let a = c.args in
    step-6 a.device a.kind a.v.now a.out.now a.ran c.pass.result a.flash.now c.run_redirect.result c.in-6.is c.run_redirect.ensures c.pass.ensures

pub returns-in-65 : goal.returns-in-65
returns-in-65 c =
    let a = c.args in
    step-65 a.device a.kind a.v.now a.out.now a.ran c.run_transfer.result a.flash.now c.in-65.is c.run_transfer.ensures

pub returns-in-67 : goal.returns-in-67
returns-in-67 c =
    let a = c.args in
    step-67 a.device a.kind a.v.now a.out.now a.ran c.pass-in-67.result a.flash.now c.run_block.new.flash c.run_block.result c.in-67.is c.run_block.ensures c.pass-in-67.ensures

pub returns-in-68 : goal.returns-in-68
returns-in-68 c =
    let a = c.args in
    step-68 a.device a.kind a.v.now a.out.now a.ran c.run_load.result a.flash.now c.in-68.is c.run_load.ensures

pub returns-in-69 : goal.returns-in-69
returns-in-69 c =
    let a = c.args in
    step-69 a.device a.kind a.v.now a.out.now a.ran c.run_cancel.result a.flash.now c.in-69.is c.run_cancel.ensures

pub returns-in-70 : goal.returns-in-70
returns-in-70 c =
    let a = c.args in
    step-70 a.device a.kind a.v.now a.out.now a.ran c.run_backup.result a.flash.now c.in-70.is c.run_backup.ensures

pub returns-in_default : goal.returns-in_default
returns-in_default c =
    step_other _ _ _ _ _ _ _ (λ h. omega arith) (λ h. omega arith) (λ h. omega arith) (λ h. omega arith) (λ h. omega arith) (λ h. omega arith) c.pass-in_default.ensures
