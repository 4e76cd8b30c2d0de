-- `agent::datagram` meets its contract: by what the datagram asks.
use Rattle.std.proofs.Common.{sym, ◌∙◌, ℕ, List}
use Rattle.schedule.specs.declared.Point.{Point}
use Rattle.calls.specs.Datagram.{Call}
use Rattle.dispatch.proofs.Laws.{call-nothing, call-reset, call-acknowledged, call-error, call-index, call-record, call-records, call-later, call-shut, call-posted, call-acted, call-late}
use Rattle.agent.proofs.datagram.Goals as goal

-- the call's own inputs
abbrev inputs : List ℕ → List ℕ → List ℕ → Point → ℕ → ℕ → List ℕ → Call
inputs out bytes store time verdict random answers =
    record { out = out; bytes = bytes; store = store; time = time; verdict = verdict; random = random; answers = answers }

pub returns-then-is_shut_out : goal.returns-then-is_shut_out
returns-then-is_shut_out c =
    let a = c.args in
    call-shut a.state a.image.now (inputs a.out.now a.bytes.now a.store.now a.time a.verdict a.random a.answers.now) c.receive.ensures c.in-Post.is c.rest-payload.ensures (sym c.is_shut_out.ensures ∙ c.if-is_shut_out.true) c.silent-then-is_shut_out.ensures

pub returns-then-delayed : goal.returns-then-delayed
returns-then-delayed c =
    let a = c.args in
    call-late a.state a.image.now (inputs a.out.now a.bytes.now a.store.now a.time a.verdict a.random a.answers.now) c.receive.ensures c.in-Post.is c.rest-payload.ensures c.begin-begun.ensures c.if-delayed.true (sym c.is_shut_out.ensures ∙ c.if-is_shut_out.false) c.act.ensures

pub returns-then-at-payload : goal.returns-then-at-payload
returns-then-at-payload c =
    let a = c.args in
    call-acted a.state a.image.now (inputs a.out.now a.bytes.now a.store.now a.time a.verdict a.random a.answers.now) c.receive.ensures c.in-Post.is c.rest-payload.ensures c.begin-begun.ensures c.if-delayed.false c.if-at-payload.true c.act-then-at-payload.ensures

pub returns-in-Post : goal.returns-in-Post
returns-in-Post c =
    let a = c.args in
    call-posted a.state a.image.now (inputs a.out.now a.bytes.now a.store.now a.time a.verdict a.random a.answers.now) c.receive.ensures c.in-Post.is c.rest-payload.ensures c.begin-begun.ensures c.if-delayed.false c.if-at-payload.false c.answer-in-Post.ensures

pub returns-in-Nothing : goal.returns-in-Nothing
returns-in-Nothing c =
    let a = c.args in
    call-nothing a.state a.image.now (inputs a.out.now a.bytes.now a.store.now a.time a.verdict a.random a.answers.now) c.receive.ensures c.in-Nothing.is c.silent.ensures

pub returns-in-Reset : goal.returns-in-Reset
returns-in-Reset c =
    let a = c.args in
    call-reset a.state a.image.now (inputs a.out.now a.bytes.now a.store.now a.time a.verdict a.random a.answers.now) c.receive.ensures c.in-Reset.is c.reset.ensures

pub returns-in-Acknowledgement : goal.returns-in-Acknowledgement
returns-in-Acknowledgement c =
    let a = c.args in
    call-acknowledged a.state a.image.now (inputs a.out.now a.bytes.now a.store.now a.time a.verdict a.random a.answers.now) c.receive.ensures c.in-Acknowledgement.is c.acknowledge.ensures

pub returns-in-Error : goal.returns-in-Error
returns-in-Error c =
    let a = c.args in
    call-error a.state a.image.now (inputs a.out.now a.bytes.now a.store.now a.time a.verdict a.random a.answers.now) c.receive.ensures c.in-Error.is c.answer.ensures

pub returns-in-Index : goal.returns-in-Index
returns-in-Index c =
    let a = c.args in
    call-index a.state a.image.now (inputs a.out.now a.bytes.now a.store.now a.time a.verdict a.random a.answers.now) c.receive.ensures c.in-Index.is c.show.ensures

pub returns-in-Record : goal.returns-in-Record
returns-in-Record c =
    let a = c.args in
    call-record a.state a.image.now (inputs a.out.now a.bytes.now a.store.now a.time a.verdict a.random a.answers.now) c.receive.ensures c.in-Record.is c.show-in-Record.ensures

pub returns-in-Records : goal.returns-in-Records
returns-in-Records c =
    let a = c.args in
    call-records a.state a.image.now (inputs a.out.now a.bytes.now a.store.now a.time a.verdict a.random a.answers.now) c.receive.ensures c.in-Records.is c.show-in-Records.ensures

pub returns-in-Later : goal.returns-in-Later
returns-in-Later c =
    let a = c.args in
    call-later a.state a.image.now (inputs a.out.now a.bytes.now a.store.now a.time a.verdict a.random a.answers.now) c.receive.ensures c.in-Later.is c.show-in-Later.ensures
