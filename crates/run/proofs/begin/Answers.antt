-- `run::begin` meets its contract: an error changes nothing, and what runs has at most 24 records.
use Rattle.run.proofs.Laws.{begun-error, begun-run}
use Rattle.run.proofs.begin.Goals as goal

pub returns-in-Err : goal.returns-in-Err
returns-in-Err c =
    let a = c.args in
    begun-error a.images a.groups a.«signed_posts» a.«refuse_padding» a.flash.now a.payload.now a.time a.verdict c.look-looked.ensures c.judge.ensures c.in-Err.is

pub returns-in-Ok : goal.returns-in-Ok
returns-in-Ok c =
    let a = c.args in
    begun-run a.images a.groups a.«signed_posts» a.«refuse_padding» a.flash.now a.payload.now a.time a.verdict c.look-looked.ensures c.judge.ensures c.in-Ok.is c.take_front.ensures
