-- The messages of document 000 that are read or written, by their known fields.
use Rattle.std.specs.Prelude.{List, [], ◌∷◌}
use Rattle.protobuf.specs.Each.{Each}
use Rattle.tables.specs.Statements.{Formed}
use Rattle.tables.specs.Table.{Table, end, row, uint32, bool, bytes, string, strings, message}

-- 1 TlvIndex: tlvid
abbrev pub tlv_index : Table
tlv_index = row 1 strings end

-- 6 NMSRedirectRequest: url, immediate
abbrev pub redirect : Table
redirect = row 1 string (row 2 bool end)

-- 7 SessionID: id
abbrev pub session : Table
session = row 1 string end

-- 13 ReportSubscribe: interval, tlvid, intervalHeartBeat, tlvidHeartBeat
abbrev pub report_subscribe : Table
report_subscribe = row 1 uint32 (row 2 strings (row 3 uint32 (row 4 strings end)))

-- 18 CurrentTime: posix, iso8601, source
abbrev pub current_time : Table
current_time = row 1 uint32 (row 2 string (row 3 uint32 end))

-- 55 GroupAssign, 57 GroupMatch, 58 GroupInfo: type, id
abbrev pub group : Table
group = row 1 uint32 (row 2 uint32 end)

-- HardwareInfo: hwId, vendorHwId
abbrev pub hardware_info : Table
hardware_info = row 1 string (row 2 string end)

-- 65 TransferRequest: hwInfo, fileHash, fileName, version, fileSize, blockSize
abbrev pub transfer_request : Table
transfer_request = row 1 (message hardware_info) (row 2 bytes (row 3 string (row 4 string (row 5 uint32 (row 6 uint32 end)))))

-- 67 ImageBlock: fileHash, blockNum, blockData
abbrev pub image_block : Table
image_block = row 1 bytes (row 2 uint32 (row 4 bytes end))

-- 68 LoadRequest: fileHash, loadTime
abbrev pub load_request : Table
load_request = row 1 bytes (row 2 uint32 end)

-- 69 CancelLoadRequest, 70 SetBackupRequest: fileHash
abbrev pub image_hash : Table
image_hash = row 1 bytes end

-- 71 TransferResponse, 73 CancelLoadResponse, 74 SetBackupResponse: fileHash, response
abbrev pub response : Table
response = row 1 bytes (row 2 uint32 end)

-- 72 LoadResponse: fileHash, response, loadTime
abbrev pub load_response : Table
load_response = row 1 bytes (row 2 uint32 (row 3 uint32 end))

-- 75 FirmwareImageInfo: index, fileHash, fileName, version, fileSize, blockSize, bitmap, isDefault, isRunning, loadTime, hwInfo, bitmapOffset
abbrev pub image_info : Table
image_info =
    row 1 uint32 (row 2 bytes (row 3 string (row 4 string (row 5 uint32 (row 6 uint32
    (row 7 bytes (row 8 bool (row 9 bool (row 10 uint32 (row 11 (message hardware_info) (row 12 uint32 end)))))))))))

-- 76 SignatureValidity: notBefore, notAfter
abbrev pub signature_validity : Table
signature_validity = row 1 uint32 (row 2 uint32 end)

-- 77 Signature: value
abbrev pub signature : Table
signature = row 1 bytes end

-- every one, in the order of their records
abbrev pub every_table : List Table
every_table =
    tlv_index ∷ redirect ∷ session ∷ report_subscribe ∷ current_time ∷ group ∷ transfer_request ∷ image_block ∷ load_request ∷ image_hash ∷ response
    ∷ load_response ∷ image_info ∷ signature_validity ∷ signature ∷ []

-- numbers ascend, and messages nest at most four deep: what the one reader and the round trip ask of a table
abbrev pub EveryFormed : Type 0
EveryFormed = Each Formed every_table
