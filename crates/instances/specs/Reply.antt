-- 1,280 bytes of a reply, document 01, "Requests, in this order": a GET's reply is 4.03 where it would be over 1,280 bytes, its head included.
use Rattle.std.specs.Prelude.{ℕ, ◌≡◌, List, length, ltb}
use Rattle.buffer.specs.Pick.{pick}
use Rattle.get.specs.Get.{forbidden, content}
use Rattle.reply.specs.Reply.{reply_of}

-- as long with any code and message id
abbrev pub SameLength : Type 0
SameLength = (code id code′ id′ : ℕ) (body : List ℕ) → length (reply_of code id body) ≡ length (reply_of code′ id′ body)

-- a reply over 1,280 bytes: 4.03; it is as long with any message id (`SameLength`), so 0 stands for all
abbrev pub ContentFits : Type 0
ContentFits = (bs : List ℕ) → content bs ≡ pick (ltb 1280 (length (reply_of 69 0 bs))) forbidden (record { code = 69; body = bs })
