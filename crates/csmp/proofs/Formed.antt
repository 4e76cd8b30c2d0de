-- The tables of document 000 are formed: numbers ascend, and they nest at most four deep.
use native.Mathlib.Omega.{arith}
use Rattle.tables.specs.Statements.{Formed}
use Rattle.csmp.specs.Tables.{tlv_index, redirect, session, report_subscribe, current_time, group, hardware_info, transfer_request, image_block, load_request, image_hash, response, load_response, image_info, signature_validity, signature, EveryFormed}

pub tlv-index-formed : Formed tlv_index
tlv-index-formed = record { ordered = (omega arith, omega arith, tt, tt); shallow = omega arith }

pub redirect-formed : Formed redirect
redirect-formed = record { ordered = (omega arith, omega arith, tt, (omega arith, omega arith, tt, tt)); shallow = omega arith }

pub session-formed : Formed session
session-formed = record { ordered = (omega arith, omega arith, tt, tt); shallow = omega arith }

pub report-subscribe-formed : Formed report_subscribe
report-subscribe-formed = record { ordered = (omega arith, omega arith, tt, (omega arith, omega arith, tt, (omega arith, omega arith, tt, (omega arith, omega arith, tt, tt)))); shallow = omega arith }

pub current-time-formed : Formed current_time
current-time-formed = record { ordered = (omega arith, omega arith, tt, (omega arith, omega arith, tt, (omega arith, omega arith, tt, tt))); shallow = omega arith }

pub group-formed : Formed group
group-formed = record { ordered = (omega arith, omega arith, tt, (omega arith, omega arith, tt, tt)); shallow = omega arith }

pub hardware-info-formed : Formed hardware_info
hardware-info-formed = record { ordered = (omega arith, omega arith, tt, (omega arith, omega arith, tt, tt)); shallow = omega arith }

pub transfer-request-formed : Formed transfer_request
transfer-request-formed = record { ordered = (omega arith, omega arith, (omega arith, omega arith, tt, (omega arith, omega arith, tt, tt)), (omega arith, omega arith, tt, (omega arith, omega arith, tt, (omega arith, omega arith, tt, (omega arith, omega arith, tt, (omega arith, omega arith, tt, tt)))))); shallow = omega arith }

pub image-block-formed : Formed image_block
image-block-formed = record { ordered = (omega arith, omega arith, tt, (omega arith, omega arith, tt, (omega arith, omega arith, tt, tt))); shallow = omega arith }

pub load-request-formed : Formed load_request
load-request-formed = record { ordered = (omega arith, omega arith, tt, (omega arith, omega arith, tt, tt)); shallow = omega arith }

pub image-hash-formed : Formed image_hash
image-hash-formed = record { ordered = (omega arith, omega arith, tt, tt); shallow = omega arith }

pub response-formed : Formed response
response-formed = record { ordered = (omega arith, omega arith, tt, (omega arith, omega arith, tt, tt)); shallow = omega arith }

pub load-response-formed : Formed load_response
load-response-formed = record { ordered = (omega arith, omega arith, tt, (omega arith, omega arith, tt, (omega arith, omega arith, tt, tt))); shallow = omega arith }

pub image-info-formed : Formed image_info
image-info-formed = record { ordered = (omega arith, omega arith, tt, (omega arith, omega arith, tt, (omega arith, omega arith, tt, (omega arith, omega arith, tt, (omega arith, omega arith, tt, (omega arith, omega arith, tt, (omega arith, omega arith, tt, (omega arith, omega arith, tt, (omega arith, omega arith, tt, (omega arith, omega arith, tt, (omega arith, omega arith, (omega arith, omega arith, tt, (omega arith, omega arith, tt, tt)), (omega arith, omega arith, tt, tt)))))))))))); shallow = omega arith }

pub signature-validity-formed : Formed signature_validity
signature-validity-formed = record { ordered = (omega arith, omega arith, tt, (omega arith, omega arith, tt, tt)); shallow = omega arith }

pub signature-formed : Formed signature
signature-formed = record { ordered = (omega arith, omega arith, tt, tt); shallow = omega arith }

pub every-formed : EveryFormed
every-formed = (
  tlv-index-formed,
  (
    redirect-formed,
    (
      session-formed,
      (
        report-subscribe-formed,
        (
          current-time-formed,
          (
            group-formed,
            (
              transfer-request-formed,
              (
                image-block-formed,
                (
                  load-request-formed,
                  (
                    image-hash-formed,
                    (response-formed, (load-response-formed, (image-info-formed, (signature-validity-formed, (signature-formed, tt))))),
                  ),
                ),
              ),
            ),
          ),
        ),
      ),
    ),
  ),
)
