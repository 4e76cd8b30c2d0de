-- What is proved of these readers, beyond the functions' contracts: each reads its message by its table, by name.
use Rattle.std.specs.Prelude.{ℕ, ◌≡◌, List, [], ◌∷◌, map, ◌&&◌, None, Option, Some}
use Rattle.protobuf.specs.Given.{bytes_given}
use Rattle.tables.specs.Table.{readable, padded, read_by}
use Rattle.csmp.specs.Named.{moment_given, short, Sample, alone, flagged}
use Rattle.csmp.specs.Tables.{redirect, session, group, signature_validity, signature}
use Rattle.decode.specs.Read.{redirect_of, session_of, group_of, validity_of, signature_of}

-- 6 NMSRedirectRequest
pub record RedirectRead (v : List ℕ) : Type 0 where
  pub reading : (redirect_of v).reading.readable ≡ (readable redirect v && short 128 (read_by redirect v).0)
  pub padding : (redirect_of v).reading.padded ≡ padded redirect v
  pub url : bytes_given v (redirect_of v).url ≡ (read_by redirect v).0
  pub immediate : (redirect_of v).immediate ≡ (read_by redirect v).1.0

-- 7 SessionID
pub record SessionRead (v : List ℕ) : Type 0 where
  pub reading : (session_of v).reading.readable ≡ (readable session v && short 64 (read_by session v).0)
  pub padding : (session_of v).reading.padded ≡ padded session v
  pub id : bytes_given v (session_of v).id ≡ (read_by session v).0

-- 55 GroupAssign, 57 GroupMatch
pub record GroupRead (v : List ℕ) : Type 0 where
  pub reading : (group_of v).reading.readable ≡ readable group v
  pub padding : (group_of v).reading.padded ≡ padded group v
  pub type : (group_of v).kind ≡ (read_by group v).0
  pub id : (group_of v).id ≡ (read_by group v).1.0

-- 76 SignatureValidity
pub record ValidityRead (v : List ℕ) : Type 0 where
  pub reading : (validity_of v).reading.readable ≡ readable signature_validity v
  pub padding : (validity_of v).reading.padded ≡ padded signature_validity v
  pub not_before : moment_given (validity_of v).not_before ≡ (read_by signature_validity v).0
  pub not_after : moment_given (validity_of v).not_after ≡ (read_by signature_validity v).1.0

-- all of them
pub record ReadByTables : Type 0 where
  pub redirects : (v : List ℕ) → RedirectRead v
  pub sessions : (v : List ℕ) → SessionRead v
  pub groups : (v : List ℕ) → GroupRead v
  pub validities : (v : List ℕ) → ValidityRead v
  pub signatures : (v : List ℕ) → ((signature_of v).readable ≡ readable signature v) × ((signature_of v).padded ≡ padded signature v)

-- samples with document 000's field numbers: url "u", immediate not 0
abbrev pub redirect_sample : List ℕ
redirect_sample = 0x0A ∷ 0x01 ∷ 0x75 ∷ 0x10 ∷ 0x02 ∷ []

-- url "u", then "w"; immediate 0
abbrev pub redirect_again : List ℕ
redirect_again = 0x0A ∷ 0x01 ∷ 0x75 ∷ 0x10 ∷ 0x00 ∷ 0x0A ∷ 0x01 ∷ 0x77 ∷ []

-- id "ab"
abbrev pub session_sample : List ℕ
session_sample = 0x0A ∷ 0x02 ∷ 0x61 ∷ 0x62 ∷ []

-- type 1, id 300
abbrev pub group_sample : List ℕ
group_sample = 0x08 ∷ 0x01 ∷ 0x10 ∷ 0xAC ∷ 0x02 ∷ []

-- type as bytes, which is skipped; no id
abbrev pub group_without : List ℕ
group_without = 0x0A ∷ 0x01 ∷ 0x01 ∷ []

-- notBefore 5, notAfter 6
abbrev pub validity_sample : List ℕ
validity_sample = 0x08 ∷ 0x05 ∷ 0x10 ∷ 0x06 ∷ []

-- value "s"; and cut short
abbrev pub signature_sample : List ℕ
signature_sample = 0x0A ∷ 0x01 ∷ 0x73 ∷ []

abbrev pub signature_cut : List ℕ
signature_cut = 0x0A ∷ 0x02 ∷ 0x73 ∷ []

abbrev pub redirect_shown : List ℕ → List (Option (List ℕ))
redirect_shown v = bytes_given v (redirect_of v).url ∷ flagged (redirect_of v).immediate ∷ []

abbrev pub group_shown : List ℕ → List (Option (List ℕ))
group_shown v = alone (group_of v).kind ∷ alone (group_of v).id ∷ []

unfoldable pub samples : List Sample
samples =
    record { is = redirect_shown redirect_sample; should = Some (0x75 ∷ []) ∷ Some (1 ∷ []) ∷ [] }
    ∷ record { is = redirect_shown redirect_again; should = Some (0x77 ∷ []) ∷ Some (0 ∷ []) ∷ [] }
    ∷ record { is = bytes_given session_sample (session_of session_sample).id ∷ []; should = Some (0x61 ∷ 0x62 ∷ []) ∷ [] }
    ∷ record { is = group_shown group_sample; should = Some (1 ∷ []) ∷ Some (300 ∷ []) ∷ [] }
    ∷ record { is = group_shown group_without; should = None ∷ None ∷ [] }
    ∷ record {
      is = alone (moment_given (validity_of validity_sample).not_before) ∷ alone (moment_given (validity_of validity_sample).not_after) ∷ [];
      should = Some (5 ∷ []) ∷ Some (6 ∷ []) ∷ [];
    }
    ∷ record {
      is = flagged (Some (signature_of signature_sample).readable) ∷ flagged (Some (signature_of signature_cut).readable) ∷ [];
      should = Some (1 ∷ []) ∷ Some (0 ∷ []) ∷ [];
    }
    ∷ []

abbrev pub Samples : Type 0
Samples = map (λ (x : Sample). x.is) samples ≡ map (λ (x : Sample). x.should) samples
